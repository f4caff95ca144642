-- Request 2.10: what the list of draws holds. A row of faces stands in it as often as different cards can be taken for it, one after the other: of different cards each ordered
-- draw exactly once, and of equal faces as often as there are ways to take them from different decks.
use Rattle.std.specs.Prelude.{◌≡◌, Bool, true, false, cond, ◌&&◌, List, [], ◌∷◌, ℕ, ◌-◌, ◌*◌, eqb, length}
use Rattle.lists.specs.Sum.{sum_of, is_it, count_of}
use Rattle.bank_chances.specs.Draws.{draws}

-- Two rows of faces are the same.
unfoldable pub same_row : List ℕ → List ℕ → Bool
same_row [] [] = true
same_row [] (y ∷ ys) = false
same_row (x ∷ xs) [] = false
same_row (x ∷ xs) (y ∷ ys) = eqb y x && same_row xs ys

-- How often a row stands in a list of draws.
abbrev pub times_in : List (List ℕ) → List ℕ → ℕ
times_in list row = sum_of (λ draw. cond (same_row row draw) 1 0) list

-- In how many ways its cards can be taken, where so many are left of each face: any card of the first face, then those of the others out of what is left.
unfoldable pub ways_to_take : (ℕ → ℕ) → List ℕ → ℕ
ways_to_take left [] = 1
ways_to_take left (face ∷ row) = left face * ways_to_take (λ other. left other - is_it other face) row

abbrev pub EachDraw : Type 0
EachDraw = (cards row : List ℕ) → times_in (draws (length row) cards) row ≡ ways_to_take (λ face. count_of face cards) row
