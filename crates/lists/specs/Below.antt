-- Tests and sums over the numbers below a number: the seats of a table, the faces of a deck, the values of a byte.
use Rattle.std.specs.Prelude.{Bool, true, cond, ◌&&◌, ℕ, zero, suc, ◌+◌, ltb}

-- every number below passes
unfoldable pub all_below : (ℕ → Bool) → ℕ → Bool
all_below f zero = true
all_below f (suc n) = all_below f n && f n

-- what `f` gives for each number below, added up
unfoldable pub sum_below : (ℕ → ℕ) → ℕ → ℕ
sum_below f zero = 0
sum_below f (suc n) = sum_below f n + f n

-- the first number below that passes; the number itself where none does
unfoldable pub first_below : (ℕ → Bool) → ℕ → ℕ
first_below f zero = 0
first_below f (suc n) = cond (ltb (first_below f n) n) (first_below f n) (cond (f n) n (suc n))
