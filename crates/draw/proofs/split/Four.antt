-- Four places written out, and with two hands in the place of one of them.
use mathlib.Core.Path.{◌≡◌, refl, sym, ◌∙◌, ap}
use mathlib.Core.List.{List, [], ◌∷◌}
use Prim.Native.Nat.{ℕ}
use native.Mathlib.Omega.{arith}
use lib.ListN.{length, get_or}
use Rattle.rules.specs.declared.seat_hand.SeatHand.{SeatHand}
use Rattle.table.specs.Seat.{missing_place}
use Rattle.decisions_spec.specs.Split.{split_places}

abbrev pub four : List SeatHand → List SeatHand
four xs = get_or xs 0 missing_place ∷ get_or xs 1 missing_place ∷ get_or xs 2 missing_place ∷ get_or xs 3 missing_place ∷ []

written : (xs : List SeatHand) → length xs ≡ 4 → four xs ≡ xs
written [] full = absurd (omega arith)
written (x ∷ []) full = absurd (omega arith)
written (x ∷ y ∷ []) full = absurd (omega arith)
written (x ∷ y ∷ z ∷ []) full = absurd (omega arith)
written (x ∷ y ∷ z ∷ w ∷ []) full = refl
written (x ∷ y ∷ z ∷ w ∷ v ∷ xs) full = absurd (omega arith)

-- at a place that the code has tested
pub put : (xs : List SeatHand) (p k : ℕ) (a b : SeatHand) → length xs ≡ 4 → p ≡ k → split_places (four xs) k a b ≡ split_places xs p a b
put xs p k a b full same = ap (λ (ys : List SeatHand). split_places ys k a b) (written xs full) ∙ ap (λ (i : ℕ). split_places xs i a b) (sym same)
