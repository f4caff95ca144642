-- Document 01, "Cards and totals": 20 cards can occur. How many a hand can come to: eleven aces are 21 and end, so twelve cards or more are never all
-- aces.
use Rattle.std.specs.Prelude.{Bool, ◌||◌, List, ℕ, ltb, length}
use Rattle.cards.specs.Total.{low_sum}

-- A hand that could have been played: of twelve cards or more, the low sum is above their number.
unfoldable pub could_be_played : List ℕ → Bool
could_be_played cards = ltb (length cards) 12 || ltb (length cards) (low_sum cards)
