-- Document 01, "Cards and totals": a card is 0 to 51, suit × 13 + rank.
use Rattle.std.specs.Prelude.{Bool, ℕ, ◌/◌, ◌%◌, leb, eqb}

-- Suit: 0 to 3.
abbrev pub suit_of : ℕ → ℕ
suit_of card = card / 13

-- Rank: 0 is the ace, 1 to 8 are two to nine, 9 the ten, 10 to 12 jack, queen, king.
abbrev pub rank_of : ℕ → ℕ
rank_of card = card % 13

-- An ace: rank 0.
abbrev pub is_ace : ℕ → Bool
is_ace card = eqb (rank_of card) 0

-- Ten-value: ranks 9 to 12.
abbrev pub is_ten_value : ℕ → Bool
is_ten_value card = leb 9 (rank_of card)
