-- How many lines a seat has at most: for each of its three guests one for the insurance, four for the side stakes and four for the hands.
use mathlib.Core.Path.{◌≡◌, refl, ap}
use mathlib.Core.Bool.{Bool, true, false, cond}
use mathlib.Core.List.{List, [], ◌∷◌, ◌++◌, map}
use Prim.Native.Nat.{ℕ, suc, ◌≤◌}
use native.Mathlib.Omega.{arith}
use lib.Dec.{ltb}
use lib.ListN.{length, length-append, length-map}
use Rattle.options.specs.declared.Options.{Options}
use Rattle.payment.specs.declared.bank.Score.{Score}
use Rattle.payment.specs.Bets.{side}
use Rattle.payment.specs.Insurance.{insurance_pay}
use Rattle.payment.specs.SidePay.{side_pay}
use Rattle.payment.specs.Pays.{Due, due, insurance_kind, side_kind, insurance_pays, side_due, side_pays, hand_pays, pays_of}
use Rattle.rules.specs.SeatHand.{Played}
use Rattle.rules.proofs.seat_hand.Places.{many_hands}
use Rattle.table.specs.declared.Seat.{Seat}
use Rattle.table.specs.Seat.{guest_at, is_staked, insurance, sides, first_cards, stake, hands}
use Rattle.table.proofs.Guests.{guest-hands}
use Rattle.close_spec.specs.PayLines.{line_of, guest_pays, guest_lines, seat_lines}

one_if : {A : Type 0} (b : Bool) (a : A) → length (cond b (a ∷ []) []) ≤ 1
one_if true a = omega arith
one_if false a = omega arith

all_if : {A : Type 0} (b : Bool) (xs : List A) → length (cond b xs []) ≤ length xs
all_if true xs = omega arith
all_if false xs = omega arith

insured : (bank : Score) (I : ℕ) → length (insurance_pays bank I) ≤ 1
unfolding insurance_pays
insured bank I = one_if (ltb 0 I) (due insurance_kind 0 (insurance_pay bank I))

sided : (k n : ℕ) (first : List ℕ) → length (side_due k n first) ≤ 1
unfolding side_due
sided k n first = one_if (ltb 0 n) (due (side_kind k) 0 (side_pay k n first))

four : (all first : List ℕ) → length (side_pays all first) ≤ 4
unfolding side_pays
four all first =
    let one : ℕ → List Due = λ k. side_due k (side all k) first in
    omega (
      arith,
      length-append (one 1 ++ one 2 ++ one 3) (one 4),
      length-append (one 1 ++ one 2) (one 3),
      length-append (one 1) (one 2),
      sided 1 (side all 1) first,
      sided 2 (side all 2) first,
      sided 3 (side all 3) first,
      sided 4 (side all 4) first,
    )

module _ (o : Options) (bank : Score) where
  each : (S p : ℕ) (hs : List Played) → length (hand_pays o bank S p hs) ≡ length hs
  unfolding hand_pays
  each S p [] = refl
  each S p (h ∷ hs) = ap suc (each S (suc p) hs)

  nine : (s : Seat) → length s.hands.places ≡ 4 → length (guest_pays o bank s) ≤ 9
  unfolding pays_of
  nine s full =
      let first = insurance_pays bank (insurance s) in
      let beside = side_pays (sides s) (first_cards s) in
      let played = hand_pays o bank (stake s) 0 (hands s) in
      omega (
        arith,
        length-append (first ++ beside) played,
        length-append first beside,
        insured bank (insurance s),
        four (sides s) (first_cards s),
        each (stake s) 0 (hands s),
        many_hands s.hands full,
      )

  guest_few : (seat position : ℕ) (s : Seat) → length s.hands.places ≡ 4 → length (guest_lines o bank seat position s) ≤ 9
  unfolding guest_lines
  guest_few seat position s full =
      omega (arith, all_if (is_staked s) (map (line_of seat position) (guest_pays o bank s)), length-map (guest_pays o bank s) (line_of seat position), nine s full)

  pub seat_few : (seat : ℕ) (s : Seat) → length s.hands.places ≡ 4 → length (seat_lines o bank seat s) ≤ 27
  unfolding seat_lines
  seat_few seat s full =
      let few : (p : ℕ) → length (guest_lines o bank seat p (guest_at s p)) ≤ 9 = λ p. guest_few seat p (guest_at s p) (rw (guest-hands s p) full) in
      let lines : (p : ℕ) → List _ = λ p. guest_lines o bank seat p (guest_at s p) in
      omega (arith, length-append (lines 0 ++ lines 1) (lines 2), length-append (lines 0) (lines 1), few 0, few 1, few 2)
