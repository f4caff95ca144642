-- A draw's first card is any card of the row's first face, and the rest of the row stands in the draws of the others.
use mathlib.Core.Path.{◌≡◌, refl, sym, ◌∙◌, ap}
use mathlib.Core.Bool.{Bool, true, false, cond, ◌&&◌}
use mathlib.Core.List.{List, [], ◌∷◌}
use Prim.Native.Nat.{ℕ, ◌+◌, ◌-◌, ◌*◌}
use native.Mathlib.Decide.{ℕ_discrete}
use native.Mathlib.Nat.{zero-mul, one-mul, add-mul}
use native.Mathlib.Omega.{arith}
use lib.Dec.{eqb}
use lib.ListN.{length}
use Rattle.lists.specs.Sum.{sum_of, is_it, count_of}
use Rattle.lists.proofs.Sums.{sum-none}
use Rattle.bank_chances.specs.Draws.{draws}
use Rattle.bank_chances.specs.EachDraw.{same_row, times_in, ways_to_take, EachDraw}
use Rattle.bank_chances.proofs.Draws.{Drawn, first-sum, draws-sum}
use Rattle.bank_chances.proofs.Groups.{is_it_lem, is_not}

-- the same numbers left, the same ways
same-ways : (f g : ℕ → ℕ) → ((face : ℕ) → f face ≡ g face) → (row : List ℕ) → ways_to_take f row ≡ ways_to_take g row
unfolding ways_to_take
same-ways f g same [] = refl
same-ways f g same (face ∷ row) =
    rw (same face, same-ways (λ other. f other - is_it other face) (λ other. g other - is_it other face) (λ other. ap (λ (n : ℕ). n - is_it other face) (same other)) row)

-- only cards of one face count
only_face : (k : ℕ → ℕ) (face : ℕ) (cards : List ℕ) → sum_of (λ card. is_it face card * k card) cards ≡ count_of face cards * k face
unfolding sum_of
only_face k face [] = sym (zero-mul (k face))
only_face k face (card ∷ cards) = go (ℕ_discrete card face) (only_face k face cards)
  where
    go : Dec (card ≡ face) → sum_of (λ c. is_it face c * k c) cards ≡ count_of face cards * k face
        → is_it face card * k card + sum_of (λ c. is_it face c * k c) cards ≡ (is_it face card + count_of face cards) * k face
    go (yes same) rec = rw (same, is_it_lem face face refl) (omega (arith, add-mul 1 (count_of face cards) (k face), one-mul (k face), rec))
    go (no other) rec = rw (is_not face card other) (omega (arith, add-mul 0 (count_of face cards) (k face), zero-mul (k face), zero-mul (k card), rec))

-- the rows that begin with a face, behind a card of it or another
begins : (list : List (List ℕ)) (face card : ℕ) (row : List ℕ) → sum_of (λ draw. cond (same_row (face ∷ row) (card ∷ draw)) 1 0) list ≡ is_it face card * times_in list row
unfolding same_row
begins list face card row = go (eqb card face)
  where
    go : (b : Bool) → sum_of (λ draw. cond (b && same_row row draw) 1 0) list ≡ cond b 1 0 * times_in list row
    go true = sym (one-mul (times_in list row))
    go false = sum-none (λ draw. 0) list [] (λ i h. refl) ∙ sym (zero-mul (times_in list row))

pub each-draw : EachDraw
unfolding ways_to_take draws sum_of same_row
each-draw cards [] = refl
each-draw cards (face ∷ row) =
    draws-sum (λ draw. cond (same_row (face ∷ row) draw) 1 0) (length row) cards
    ∙ first-sum (λ card rest. sum_of (λ draw. cond (same_row (face ∷ row) (card ∷ draw)) 1 0) (draws (length row) rest)) (λ card. is_it face card * behind card) cards (λ card rest drawn.
    begins (draws (length row) rest) face card row ∙ ap (λ (n : ℕ). is_it face card * n) (each-draw rest row ∙ same-ways (λ f. count_of f rest) (λ f. count_of f cards - is_it f card) (left card rest drawn) row))
    ∙ only_face behind face cards
  where
    behind : ℕ → ℕ
    behind card = ways_to_take (λ f. count_of f cards - is_it f card) row

    left : (card : ℕ) (rest : List ℕ) → Drawn card rest cards → (f : ℕ) → count_of f rest ≡ count_of f cards - is_it f card
    left card rest drawn f = omega (arith, drawn (is_it f))
