-- Document 01, "Cards and totals", article 8: low sum, total and bust.
use Rattle.std.specs.Prelude.{Bool, cond, ◌&&◌, List, ℕ, ◌+◌, leb, ltb}
use Rattle.lists.specs.Sum.{sum_of}
use Rattle.lists.specs.Tests.{any_of}
use Rattle.cards.specs.Card.{is_ace}
use Rattle.cards.specs.Points.{points_of}

-- Low sum: all points, aces as 1.
abbrev pub low_sum : List ℕ → ℕ
low_sum cards = sum_of points_of cards

-- An ace is among the cards.
abbrev pub has_ace : List ℕ → Bool
has_ace cards = any_of is_ace cards

-- Total: low sum + 10 if there is an ace and that is at most 21, else low sum.
unfoldable pub total : List ℕ → ℕ
total cards = cond (has_ace cards && leb (low_sum cards + 10) 21) (low_sum cards + 10) (low_sum cards)

-- Bust: total above 21.
abbrev pub is_bust : List ℕ → Bool
is_bust cards = ltb 21 (total cards)
