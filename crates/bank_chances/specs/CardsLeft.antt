-- Request 2.10: the faces left, as 52 counts. Equal faces of different decks are different cards: a face stands in the list as often as it is left.
use Rattle.std.specs.Prelude.{List, [], ◌∷◌, ◌++◌, ℕ, suc, replicate}

-- Counts of the faces from `face` on.
unfoldable pub cards_from : ℕ → List ℕ → List ℕ
cards_from face [] = []
cards_from face (count ∷ counts) = replicate count face ++ cards_from (suc face) counts

-- The cards that are left.
abbrev pub cards_left : List ℕ → List ℕ
cards_left left = cards_from 0 left
