-- An accepted double lays each guest's stake again and gives the hand whose turn it is its last card, with the prize that this makes.
use mathlib.Core.Path.{◌≡◌, refl, ap, ◌∙◌}
use mathlib.Core.Bool.{true, not, ◌||◌}
use mathlib.Core.List.{List, [], ◌∷◌, ◌++◌}
use Prim.Native.Nat.{ℕ, ◌≤◌, ◌<◌}
use native.Mathlib.Omega.{arith}
use lib.Dec.{ltb, eqb}
use lib.ListN.{length, get_or, set, take, length-append}
use lib.Seq.{take-append-le, take_all}
use borrow.Author.Tests.{ltb-false, eqb-true, eq-eqb, not-false}
use Rattle.lists.specs.Tests.{all_of}
use Rattle.lists.proofs.Tests.{and_at}
use Rattle.cards.specs.Hand.{cards_of}
use Rattle.cards.specs.Total.{total}
use Rattle.options.specs.declared.Options.{Options}
use Rattle.rules.specs.SeatHand.{Played, played_of, split_aces, by_double, has_two_cards}
use Rattle.rules.specs.Waits.{waits}
use Rattle.rules.specs.Permits.{takes_cards, permits_double}
use Rattle.payment.specs.Prize.{prize}
use Rattle.payment.proofs.Bounds.{wager-double}
use Rattle.call.specs.declared.At.{At}
use Rattle.call.specs.declared.Call.TheVariants.{Double}
use Rattle.call.specs.Refusal.{first}
use Rattle.history.specs.Aids.MakeEntry.{entry}
use Rattle.history.specs.Cards.{call_takes}
use Rattle.history.specs.Hands.{played, next_card, grown, finished, decide}
use Rattle.history.specs.Money.{lays, wins}
use Rattle.table.specs.declared.Table.{Table}
use Rattle.table.specs.Seat.{purse, stake, hands}
use Rattle.table.specs.Table.{seat_at, guest_of, up, cards_left}
use Rattle.table.specs.Broken.{sound_double, sound_ending}
use Rattle.table.specs.Shape.{Shaped}
use Rattle.table.specs.Aids.Sound.{Sound}
use Rattle.decisions_spec.specs.Turn.{waiting_place_of, waiting_hand_of, may_take}
use Rattle.decisions_spec.specs.Card.{card_ahead, grown_hand}
use Rattle.decisions_spec.specs.Double.{double_conditions, double_effect}
use Rattle.decisions_spec.proofs.Decision.{Decision}
use Rattle.decisions_spec.proofs.Turn.{TurnAccepted, turn-accepted}
use Rattle.decisions_spec.proofs.Paying.{all_enough}
use Rattle.decisions_spec.proofs.Card.{Growing, Allowed, takes_below, card_decides}

-- what its conditions give
pub record DoubleAccepted (t : Table) (j : ℕ) : Type 0 where
  pub turn : TurnAccepted t j
  pub permitted : may_take permits_double t j ≡ true
  pub enough : (q : ℕ) → q < 3 → stake (guest_of t j q) ≤ purse (guest_of t j q)
  pub left : 1 ≤ cards_left t

pub double-accepted : (t : Table) (j p : ℕ) → first (double_conditions t j p) ≡ 0 → DoubleAccepted t j
unfolding double_conditions all_of
double-accepted t j p e =
    let (turn, (permitted, (enough, (left, _)))) = turn-accepted t j p _ refl e in
    record {
      turn = turn;
      permitted = not-false (may_take permits_double t j) permitted;
      enough = all_enough (seat_at t j) enough;
      left = ltb-false (cards_left t) 1 left;
    }

-- a hand that may double: it takes cards, has two of them, and the option permits their total
module _ (o : Options) (up many : ℕ) (h : Played) (permitted : permits_double o up many h ≡ true) where
  permits : (k : ℕ) → get_or (takes_cards o up many h ∷ has_two_cards h ∷ (eqb o.double 1 || eqb (total h.cards) 11) ∷ []) k true ≡ true
  unfolding permits_double
  permits = and_at (takes_cards o up many h ∷ has_two_cards h ∷ (eqb o.double 1 || eqb (total h.cards) 11) ∷ []) permitted

  -- with the card it is a doubled hand: its first two are those that it had
  doubled : (card : ℕ) (cards : List ℕ) → cards ≡ h.cards ++ (card ∷ []) → sound_double o (played cards h.origin by_double) ≡ true
  unfolding sound_double takes_cards has_two_cards
  doubled card cards more =
      let two : length h.cards ≡ 2 = eqb-true (length h.cards) 2 (permits 1) in
      let takes = and_at (waits o up many h ∷ not (eqb h.origin split_aces) ∷ ltb (total h.cards) 21 ∷ []) (permits 0) in
      let three : length cards ≡ 3 = ap length more ∙ length-append h.cards (card ∷ []) ∙ omega arith in
      let had : take 2 cards ≡ h.cards = ap (take 2) more ∙ take-append-le 2 h.cards (card ∷ []) (omega arith) ∙ take_all 2 h.cards (omega arith) in
      simp (eq-eqb (length cards) 3 three, had, takes 1, takes 2, permits 2)

module _ (t : Table) (at : At) (order : List ℕ) where
  growing : Growing t (entry (Double at) order) at.seat 1 by_double
  unfolding lays wins decide call_takes
  growing =
      let j = at.seat in
      record {
        deciding = record { among = refl; no_insure = refl; seat_is = refl };
        no_split = refl;
        gives = refl;
        takes = λ staked c. refl;
        decides = λ c h same still_Open. ap (λ (x : Played). set (hands (seat_at t j)) (waiting_place_of t j) (finished (grown x (next_card c 0)) by_double)) same;
        lays_it = λ q S. simp (eq-eqb j j refl) (omega arith);
        wins_it = λ o c S hs h same still_Open. simp (eq-eqb j j refl) (ap (λ (x : Played). prize o S (finished (grown x (next_card c 0)) by_double)) same);
        wager_is = λ S h code. omega (arith, wager-double S h code);
      }

  allowed : DoubleAccepted t at.seat → Allowed t at.seat 1 by_double
  unfolding sound_ending
  allowed a =
      let h = played_of (waiting_hand_of t at.seat) in
      let many = length (hands (seat_at t at.seat)) in
      record {
        below = takes_below t at.seat (permits t.options (up t) many h a.permitted 0);
        fits = doubled t.options (up t) many h a.permitted (card_ahead t 0) (cards_of (grown_hand t at.seat by_double).hand);
        purse_has = λ q h. omega (arith, a.enough q h);
        left = a.left;
      }

  pub double_decides : Shaped t → Sound t → first (double_conditions t at.seat at.position) ≡ 0 → Decision t (entry (Double at) order) (double_effect t at.seat)
  double_decides shaped sound e =
      let a = double-accepted t at.seat at.position e in
      card_decides t (entry (Double at) order) at.seat 1 by_double shaped sound a.turn growing (allowed a)
