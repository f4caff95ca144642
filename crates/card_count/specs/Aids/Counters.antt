-- Counters: each card adds one to the counter of its number.
use Rattle.std.specs.Prelude.{List, [], ◌∷◌, ℕ, ◌+◌, ◌%◌, ◌^◌, get_or, set, replicate}

-- Counters that begin with zero, one for each value of a byte.
unfoldable pub no_counts : List ℕ
no_counts = replicate 256 0

-- One card counted. A counter has 16 bits and wraps: whoever reads one knows that fewer cards of its number are there.
abbrev pub counted : List ℕ → ℕ → List ℕ
counted of card = set of card ((get_or of card 0 + 1) % 2 ^ 16)

-- All cards of a list counted, one after the other.
unfoldable pub counted_all : List ℕ → List ℕ → List ℕ
counted_all of [] = of
counted_all of (card ∷ cards) = counted_all (counted of card) cards
