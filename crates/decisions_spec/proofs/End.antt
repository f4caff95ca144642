-- A decision that ends a hand and moves no money and no card: stand, even, five and surrender. The wager stays S: only double has another.
use mathlib.Core.Path.{◌≡◌, refl, sym, ◌∙◌, ap}
use mathlib.Core.Bool.{true, false, and-false}
use Prim.Native.Nat.{ℕ, ◌<◌}
use native.Mathlib.Omega.{arith}
use lib.Dec.{ltb}
use lib.ListN.{length, get_or, set}
use borrow.Author.Tests.{lt-ltb}
use Rattle.lists.specs.Sum.{sum_of}
use Rattle.lists.proofs.Tests.{any_set_or}
use Rattle.rules.specs.SeatHand.{Played, played_of, by_double}
use Rattle.rules.proofs.drew.Laws.{drew_same}
use Rattle.payment.specs.Wager.{wager}
use Rattle.payment.proofs.Bounds.{wager_single, prize-same}
use Rattle.history.specs.Entry.{Entry, is_draw, is_double, is_split, is_surrender, is_drawing, is_decision}
use Rattle.history.specs.Cards.{Cards, call_takes}
use Rattle.history.specs.Hands.{missing_hand, finished}
use Rattle.history.specs.Money.{lays, wins}
use Rattle.table.specs.declared.Seat.{Seat}
use Rattle.table.specs.declared.Table.{Table}
use Rattle.table.specs.Seat.{hands}
use Rattle.table.specs.Table.{with_seat, seat_at, up}
use Rattle.table.specs.Broken.{sound_origin, sound_ending}
use Rattle.table.specs.Shape.{Shaped}
use Rattle.table.specs.Aids.Sound.{Sound}
use Rattle.table.proofs.SeatHands.{how_many, hand_is}
use Rattle.agreement.proofs.Groups.{not_stake, not_side, not_deal, not_close, not_drawing}
use Rattle.agreement.proofs.Events.{Events, ending}
use Rattle.decisions_spec.specs.Place.{place_of, with_place, ended_by}
use Rattle.decisions_spec.specs.Turn.{waiting_place_of, end_effect}
use Rattle.decisions_spec.proofs.Decision.{makes, Deciding, of_seat, draws-none, Decision}
use Rattle.decisions_spec.proofs.Acting.{Waiting}
use Rattle.decisions_spec.proofs.Turn.{TurnAccepted, turn-waiting}
use Rattle.decisions_spec.proofs.HandChange.{HandChange, hand-decided}

-- the seat with its hand at p ended by this code
abbrev ended-seat : Table → ℕ → ℕ → ℕ → Seat
ended-seat t j p code = with_place (seat_at t j) p (ended_by (place_of (seat_at t j) p) code)

-- what the history makes of the call; the ending fits the hand
pub record Ends (t : Table) (e : Entry) (j p code : ℕ) : Type 0 where
  pub deciding : Deciding e j
  pub plain : is_drawing e ≡ false
  pub ends_one : is_decision e ≡ true
  pub decides : (c : Cards) → makes (hands (seat_at t j)) (waiting_place_of t j) c e ≡ set (hands (seat_at t j)) p (finished (get_or (hands (seat_at t j)) p missing_hand) code)
  pub some_code : 0 < code
  pub fits : sound_ending t.options (up t) (seat_at t j).hands.many (played_of (ended_by (place_of (seat_at t j) p) code)) ≡ true
  pub single : code ≡ by_double → ⊥

module _ (t : Table) (e : Entry) (j p code : ℕ) (d : Ends t e j p code) where
  plains : (is_draw e ≡ false) × (is_double e ≡ false) × (is_split e ≡ false)
  plains = not_drawing e d.plain

  lays_none : (q S : ℕ) → lays j q S e ≡ 0
  unfolding lays
  lays_none q S =
      let among = d.deciding.among in
      simp (not_stake e among refl, not_side e among refl, d.deciding.no_insure, plains.1, plains.2, and-false, of_seat e j d.deciding)

  takes_none : (staked : ℕ) (c : Cards) → call_takes t.options staked c e ≡ 0
  unfolding call_takes
  takes_none staked c = simp (not_deal e d.deciding.among refl, plains.0, plains.1, plains.2, not_close e d.deciding.among refl)

  -- the hand keeps its cards and has ended
  end-events : Waiting t j p → Events e (hands (seat_at t j)) (set (hands (seat_at t j)) p (played_of (ended_by (place_of (seat_at t j) p) code)))
  end-events w =
      let hs = hands (seat_at t j) in
      let new = played_of (ended_by (place_of (seat_at t j) p) code) in
      let old = hand_is (seat_at t j) p w.seat.shaped w.seat.few w.here in
      let inside : p < length hs = omega (arith, how_many (seat_at t j) p w.seat.shaped w.seat.few w.here, w.here) in
      ending e hs (set hs p new) d.plain d.ends_one
      (drew_same hs p new missing_hand (ap (λ (x : Played). x.cards) (sym old)))
      (any_set_or (λ x. ltb 0 x.ended) hs p new missing_hand true inside (lt-ltb 0 code d.some_code))

  end-change : Sound t → (is_surrender e ≡ false → TurnAccepted t j) → Waiting t j p → HandChange t e j p t.tray (seat_at t j).money (seat_at t j).others (ended_by (place_of (seat_at t j) p) code) t.shoe 0 (λ S. 0) (λ S. 0)
  unfolding wins sum_of sound_origin
  end-change sound turn w =
      let s = seat_at t j in
      let h = place_of s p in
      let new = ended_by h code in
      let was = w.seat.playing.each p w.here (omega (arith, w.here, w.seat.few, w.seat.shaped.four_places)) in
      let single : (S : ℕ) → wager S (played_of new) ≡ S = λ S. wager_single S (played_of new) d.single in
      let was-single : (S : ℕ) → wager S (played_of h) ≡ S = λ S. wager_single S (played_of h) (λ b. omega (arith, w.not_ended_lem)) in
      record {
        deciding = d.deciding;
        no_split = plains.2;
        as_many = refl;
        same_money = λ q. refl;
        full = w.seat.shaped.twenty_cards p (omega arith);
        sound_hand_lem = record { two_cards_lem = was.two_cards_lem; twenty_cards = was.twenty_cards; played = was.played; origin = was.origin; ended = d.fits };
        turn_is = turn;
        decides =
            λ c agree. d.decides c ∙ ap (λ (x : Played). set (hands s) p (finished x code)) (hand_is s p w.seat.shaped w.seat.few w.here);
        events = end-events w;
        lays_it = lays_none;
        wins_it = λ c agree S. simp (plains.0, plains.1, and-false);
        wager_grows = λ S. omega (arith, single S, was-single S);
        prize_grows = λ S. omega (arith, prize-same t.options S (played_of new) (played_of h) refl (single S ∙ sym (was-single S)));
        purse_pays = λ q. refl;
        tray_pays = omega arith;
        draws = draws-none t sound;
        takes = takes_none;
        cards_grow = λ v. omega arith;
      }

  pub end_decides : Sound t → (is_surrender e ≡ false → TurnAccepted t j) → Waiting t j p → Decision t e (with_seat t j (ended-seat t j p code))
  end_decides sound turn w =
      record {
        j = j;
        tray = t.tray;
        seat = ended-seat t j p code;
        shoe = t.shoe;
        k = 0;
        more = λ S. 0;
        won = λ S. 0;
        is = refl;
        decided = hand-decided t e j p t.tray (seat_at t j).money (seat_at t j).others (ended_by (place_of (seat_at t j) p) code) t.shoe 0 (λ S. 0) (λ S. 0) w (end-change sound turn w);
      }

-- in turn it is the hand whose turn it is
pub end-in_turn : (t : Table) (e : Entry) (j code : ℕ) → Ends t e j (waiting_place_of t j) code → Shaped t → Sound t → TurnAccepted t j → Decision t e (end_effect code t j)
unfolding end_effect
end-in_turn t e j code d shaped sound a = end_decides t e j (waiting_place_of t j) code d sound (λ in_turn_lem. a) (turn-waiting t shaped sound j a)
