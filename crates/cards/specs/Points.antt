-- Document 01, "Cards and totals", article 8: the points of the thirteen ranks stand in a fixed table: 1, 2 to 10, then 10, 10, 10.
use Rattle.std.specs.Prelude.{List, [], ◌∷◌, ℕ, get_or}
use Rattle.cards.specs.Card.{rank_of}

-- The points of each rank, an ace as 1.
abbrev pub points_table : List ℕ
points_table = 1 ∷ 2 ∷ 3 ∷ 4 ∷ 5 ∷ 6 ∷ 7 ∷ 8 ∷ 9 ∷ 10 ∷ 10 ∷ 10 ∷ 10 ∷ []

-- The points of a card: its rank's entry in the table.
unfoldable pub points_of : ℕ → ℕ
points_of card = get_or points_table (rank_of card) 0
