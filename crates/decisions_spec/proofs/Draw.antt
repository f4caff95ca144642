-- An accepted draw gives the hand whose turn it is the next card, and pays the prize that this makes.
use mathlib.Core.Path.{◌≡◌, refl, ◌∙◌, ap}
use mathlib.Core.Bool.{true, and-false}
use mathlib.Core.List.{List, [], ◌∷◌, ◌++◌}
use Prim.Native.Nat.{ℕ, ◌≤◌}
use native.Mathlib.Omega.{arith}
use lib.ListN.{set}
use borrow.Author.Tests.{ltb-false, eq-eqb, not-false}
use Rattle.lists.specs.Tests.{all_of}
use Rattle.rules.specs.SeatHand.{Played, not_ended}
use Rattle.rules.specs.Permits.{permits_draw}
use Rattle.payment.specs.Prize.{prize}
use Rattle.payment.proofs.Bounds.{wager_single}
use Rattle.call.specs.declared.At.{At}
use Rattle.call.specs.declared.Call.TheVariants.{Draw}
use Rattle.call.specs.Refusal.{first}
use Rattle.history.specs.Aids.MakeEntry.{entry}
use Rattle.history.specs.Cards.{call_takes}
use Rattle.history.specs.Hands.{played, next_card, grown, decide}
use Rattle.history.specs.Money.{lays, wins}
use Rattle.table.specs.declared.Table.{Table}
use Rattle.table.specs.Seat.{hands}
use Rattle.table.specs.Table.{seat_at, cards_left}
use Rattle.table.specs.Broken.{sound_ending}
use Rattle.table.specs.Shape.{Shaped}
use Rattle.table.specs.Aids.Sound.{Sound}
use Rattle.decisions_spec.specs.Turn.{waiting_place_of, may_take}
use Rattle.decisions_spec.specs.Draw.{draw_conditions, draw_effect}
use Rattle.decisions_spec.proofs.Decision.{Decision}
use Rattle.decisions_spec.proofs.Turn.{TurnAccepted, turn-accepted}
use Rattle.decisions_spec.proofs.Card.{Growing, Allowed, takes_below, card_decides}

-- what its conditions give
pub record DrawAccepted (t : Table) (j : ℕ) : Type 0 where
  pub turn : TurnAccepted t j
  pub permitted : may_take permits_draw t j ≡ true
  pub left : 1 ≤ cards_left t

pub draw-accepted : (t : Table) (j p : ℕ) → first (draw_conditions t j p) ≡ 0 → DrawAccepted t j
unfolding draw_conditions all_of
draw-accepted t j p e =
    let (turn, (permitted, (left, _))) = turn-accepted t j p _ refl e in
    record { turn = turn; permitted = not-false (may_take permits_draw t j) permitted; left = ltb-false (cards_left t) 1 left }

module _ (t : Table) (at : At) (order : List ℕ) where
  growing : Growing t (entry (Draw at) order) at.seat 0 not_ended
  unfolding lays wins decide call_takes
  growing =
      let j = at.seat in
      record {
        deciding = record { among = refl; no_insure = refl; seat_is = refl };
        no_split = refl;
        gives = refl;
        takes = λ staked c. refl;
        decides = λ c h same still_Open.
            ap (λ (x : Played). set (hands (seat_at t j)) (waiting_place_of t j) (grown x (next_card c 0))) same
            ∙ ap (λ (n : ℕ). set (hands (seat_at t j)) (waiting_place_of t j) (played (h.cards ++ (next_card c 0 ∷ [])) h.origin n)) still_Open;
        lays_it = λ q S. simp (eq-eqb j j refl, and-false) (omega arith);
        wins_it = λ o c S hs h same still_Open.
            simp (eq-eqb j j refl)
            (ap (λ (x : Played). prize o S (grown x (next_card c 0))) same
            ∙ ap (λ (n : ℕ). prize o S (played (h.cards ++ (next_card c 0 ∷ [])) h.origin n)) still_Open);
        wager_is = λ S h code. omega (arith, wager_single S h (λ b. omega arith));
      }

  allowed : DrawAccepted t at.seat → Allowed t at.seat 0 not_ended
  unfolding permits_draw sound_ending
  allowed a = record { below = takes_below t at.seat a.permitted; fits = λ cards. refl; purse_has = λ q h. omega arith; left = a.left }

  pub draw_decides : Shaped t → Sound t → first (draw_conditions t at.seat at.position) ≡ 0 → Decision t (entry (Draw at) order) (draw_effect t at.seat)
  draw_decides shaped sound e =
      let a = draw-accepted t at.seat at.position e in
      card_decides t (entry (Draw at) order) at.seat 0 not_ended shaped sound a.turn growing (allowed a)
