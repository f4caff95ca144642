-- The sum of a number for each element of a list: points of cards, money of seats, cards of a face.
use Rattle.std.specs.Prelude.{cond, List, [], ◌∷◌, ℕ, ◌+◌, eqb}

module _ {A : Type 0} where
  -- what `f` gives for each element, added up
  unfoldable pub sum_of : (A → ℕ) → List A → ℕ
  sum_of f [] = 0
  sum_of f (x ∷ xs) = f x + sum_of f xs

-- 1 for the number itself, else 0
abbrev pub is_it : ℕ → ℕ → ℕ
is_it n x = cond (eqb x n) 1 0

-- how often a number stands in a list
abbrev pub count_of : ℕ → List ℕ → ℕ
count_of n xs = sum_of (is_it n) xs
