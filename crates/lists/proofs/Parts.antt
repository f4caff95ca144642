-- Laws of parts of a list: tests over a mapped list, a part of the first elements, and sums by place.
use mathlib.Core.Path.{◌≡◌, refl, sym, ◌∙◌, ap}
use mathlib.Core.Bool.{Bool, ◌||◌}
use mathlib.Core.List.{List, [], ◌∷◌, map}
use Prim.Native.Nat.{ℕ, zero, suc, ◌+◌, ◌≤◌, ◌<◌}
use native.Mathlib.Omega.{arith}
use lib.ListN.{length, take, drop, get_or, take-append-drop}
use lib.Seq.{take-take, take-add, get_or-take, length-take-le}
use Rattle.lists.specs.Sum.{sum_of}
use Rattle.lists.specs.Tests.{any_of}
use Rattle.lists.specs.Below.{sum_below}
use Rattle.lists.proofs.Sums.{sum-append, sum-take}
use Rattle.lists.proofs.Below.{sum_below-same, sum_by_place}

module _ {A B : Type 0} where
  pub any_map : (f : B → Bool) (g : A → B) (xs : List A) → any_of f (map g xs) ≡ any_of (λ x. f (g x)) xs
  unfolding any_of
  any_map f g [] = refl
  any_map f g (x ∷ xs) = ap (λ (b : Bool). f (g x) || b) (any_map f g xs)

module _ {A : Type 0} where
  -- m elements from place n on, of the first k
  pub part_of_take : (m n k : ℕ) (xs : List A) → n + m ≤ k → take m (drop n (take k xs)) ≡ take m (drop n xs)
  part_of_take m zero k xs h = take-take m k xs (omega arith)
  part_of_take m (suc n) zero xs h = absurd (omega arith)
  part_of_take m (suc n) (suc k) [] h = refl
  part_of_take m (suc n) (suc k) (x ∷ xs) h = part_of_take m n k xs (omega arith)

  -- two lists, of as many elements, of which a number is the same at each place
  pub sum-places : (f : A → ℕ) (xs ys : List A) (d : A) → length xs ≡ length ys → ((i : ℕ) → i < length ys → f (get_or xs i d) ≡ f (get_or ys i d)) → sum_of f xs ≡ sum_of f ys
  sum-places f xs ys d same each =
      sum_by_place f xs d
      ∙ ap (sum_below (λ i. f (get_or xs i d))) same
      ∙ sum_below-same (λ i. f (get_or xs i d)) (λ i. f (get_or ys i d)) (length ys) each
      ∙ sym (sum_by_place f ys d)

  -- the first n elements, by place
  pub sum_first : (f : A → ℕ) (xs : List A) (n : ℕ) (d : A) → n ≤ length xs → sum_of f (take n xs) ≡ sum_below (λ i. f (get_or xs i d)) n
  sum_first f xs n d h =
      sum_by_place f (take n xs) d
      ∙ ap (sum_below (λ i. f (get_or (take n xs) i d))) (length-take-le n xs h)
      ∙ sum_below-same (λ i. f (get_or (take n xs) i d)) (λ i. f (get_or xs i d)) n (λ i l. ap f (get_or-take n xs i d l))

  -- the first n + m elements: the first n, and the next m
  pub sum_more : (f : A → ℕ) (xs : List A) (n m : ℕ) → sum_of f (take (n + m) xs) ≡ sum_of f (take n xs) + sum_of f (take m (drop n xs))
  sum_more f xs n m = rw (take-add, sum-append)

  -- the elements before a place, and the one there
  pub sum-before : (f : A → ℕ) (xs : List A) (i : ℕ) (d : A) → i < length xs → sum_of f (take i xs) + f (get_or xs i d) ≤ sum_of f xs
  sum-before f xs i d h = omega (arith, sum-take f xs i d h, sum-append f (take (suc i) xs) (drop (suc i) xs), ap (sum_of f) (take-append-drop (suc i) xs))
