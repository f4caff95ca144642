-- The seat that acts: what the conditions that insurance and all decisions share give of it, of its hands, and of the hand that waits.
use mathlib.Core.Path.{◌≡◌, sym, ◌∙◌, ap}
use mathlib.Core.Bool.{true, false, not, cond, and-eq-true_iff}
use Prim.Native.Nat.{ℕ, ◌≤◌, ◌<◌}
use native.Mathlib.Omega.{arith}
use native.Mathlib.Decide.{dec_le}
use lib.Dec.{leb, eqb}
use lib.ListN.{length}
use borrow.Author.Tests.{ltb-true, leb-false, eqb-true, not-false}
use Rattle.lists.proofs.Tests.{first_inside, first_passes}
use Rattle.options.proofs.Facts.{in_range_facts}
use Rattle.rules.specs.SeatHand.{Played, played_of, split_aces}
use Rattle.rules.specs.Waits.{waits, aces_wait, cards_wait}
use Rattle.rules.specs.Turn.{seat_waits}
use Rattle.rules.proofs.seat_hand.Places.{many_hands, hand_at}
use Rattle.table.specs.declared.Table.{Table}
use Rattle.table.specs.Seat.{missing_place, stake, is_staked, hands}
use Rattle.table.specs.Table.{seat_at, guest_of, is_dealt, no_such_seat, up}
use Rattle.table.specs.Broken.{broken}
use Rattle.table.specs.Shape.{Shaped, ShapedSeat}
use Rattle.table.specs.Aids.Sound.{Sound, Playing}
use Rattle.table.proofs.Facts.{seat_of-nine, unbroken}
use Rattle.decisions_spec.specs.Place.{place_of}
use Rattle.decisions_spec.specs.Turn.{waiting_place_of}

-- a round is dealt, and the seat is one of the table's and staked in it, by its seated guest
pub record Acting (t : Table) (j : ℕ) : Type 0 where
  pub unbroken : broken t ≡ false
  pub dealt : is_dealt t ≡ true
  pub within : j < t.options.seats
  pub nine : j < 9
  pub staked : 0 < stake (seat_at t j)

-- 1, 5, 8, 22 and 10 do not hold: some guest of it has staked, and so has the seated one
pub acting : (t : Table) (j p : ℕ) → broken t ≡ false → not (is_dealt t) ≡ false → no_such_seat t j ≡ false → leb 3 p ≡ false → not (is_staked (guest_of t j p)) ≡ false → Acting t j
acting t j p whole in_round_lem such-seat such-position staked =
    record {
      unbroken = whole;
      dealt = not-false (is_dealt t) in_round_lem;
      within = leb-false t.options.seats j such-seat;
      nine = seat_of-nine t j whole such-seat;
      staked = go (dec_le 1 (stake (seat_at t j)));
    }
  where
    go : Dec (1 ≤ stake (seat_at t j)) → 0 < stake (seat_at t j)
    go (yes h) = h
    go (no h) =
        omega (
          arith,
          ltb-true 0 (stake (guest_of t j p)) (not-false (is_staked (guest_of t j p)) staked),
          ((unbroken t whole).seats j (seat_of-nine t j whole such-seat)).seated_first_lem p (leb-false 3 p such-position) (omega arith),
        )

-- its hands, and its hand at p, which waits
pub record Staked (t : Table) (j : ℕ) : Type 0 where
  pub acting : Acting t j
  pub shaped : ShapedSeat (seat_at t j)
  pub some : 0 < (seat_at t j).hands.many
  pub few : (seat_at t j).hands.many ≤ 4
  pub playing : Playing t.options (is_dealt t) (up t) (seat_at t j)

pub record Waiting (t : Table) (j p : ℕ) : Type 0 where
  pub seat : Staked t j
  pub here : p < (seat_at t j).hands.many
  pub not_ended_lem : (place_of (seat_at t j) p).ended ≡ 0

-- a hand that waits has not ended
waits_open : (t : Table) (many : ℕ) (h : Played) → waits t.options (up t) many h ≡ true → h.ended ≡ 0
unfolding waits
waits_open t many h e =
    eqb-true h.ended 0 ((and-eq-true_iff (eqb h.ended 0) (cond (eqb h.origin split_aces) (aces_wait t.options many h) (cards_wait t.options (up t) h))).0 e).0

module _ (t : Table) (shaped : Shaped t) (sound : Sound t) (j : ℕ) (act : Acting t j) where
  pub staked_seat : Staked t j
  staked_seat =
      let s = seat_at t j in
      let was = sound.seats j act.nine in
      let some : 0 < s.hands.many = go (dec_le 1 s.hands.many) in
      record {
        acting = act;
        shaped = shaped.seats j act.nine;
        some = some;
        few = omega (arith, (was.playing some).within, (in_range_facts t.options sound.options).hands_most);
        playing = was.playing some;
      }
    where
      go : Dec (1 ≤ (seat_at t j).hands.many) → 0 < (seat_at t j).hands.many
      go (yes h) = h
      go (no h) = omega (arith, (sound.seats j act.nine).waiting (omega arith) act.dealt, act.staked)

  -- its first waiting hand
  pub seat-waiting : seat_waits t.options (up t) (hands (seat_at t j)) ≡ true → Waiting t j (waiting_place_of t j)
  seat-waiting some =
      let s = seat_at t j in
      let test = waits t.options (up t) (length (hands s)) in
      let inside : waiting_place_of t j < length (hands s) = ltb-true _ _ (first_inside test (hands s) ∙ some) in
      let here : waiting_place_of t j < s.hands.many = omega (arith, many_hands s.hands staked_seat.shaped.four_places) in
      let waiting : waits t.options (up t) (length (hands s)) (played_of (place_of s (waiting_place_of t j))) ≡ true =
      ap (waits t.options (up t) (length (hands s))) (sym (hand_at s.hands (waiting_place_of t j) missing_place here)) ∙ first_passes test (hands s) (played_of missing_place) inside in
      record { seat = staked_seat; here = here; not_ended_lem = waits_open t (length (hands s)) (played_of (place_of s (waiting_place_of t j))) waiting }
