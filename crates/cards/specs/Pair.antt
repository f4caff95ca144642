-- Document 01, "Cards and totals", article 13 1) (1): pair.
use Rattle.std.specs.Prelude.{Bool, ◌&&◌, List, ℕ, eqb, length, get_or}
use Rattle.cards.specs.Card.{rank_of}

-- Pair: two cards of one rank; jack and queen are none.
unfoldable pub is_pair : List ℕ → Bool
is_pair cards = eqb (length cards) 2 && eqb (rank_of (get_or cards 0 0)) (rank_of (get_or cards 1 0))
