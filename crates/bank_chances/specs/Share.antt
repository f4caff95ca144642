-- Request 2.10, the program: a count's share of all draws in parts of ten thousand, in whole numbers, rounded down.
use Rattle.std.specs.Prelude.{cond, ◌||◌, ℕ, ◌*◌, ◌/◌, ltb, eqb}

-- 0 of no draws, of more than there can be (10^16), and of a count that is above all.
unfoldable pub share_of : ℕ → ℕ → ℕ
share_of count all = cond (eqb all 0 || ltb 10000000000000000 all || ltb all count) 0 (count * 10000 / all)
