-- Request 2.10: the faces left of a table in a dealt round, so that a manager sees what the bank makes of the up card that lies there. They are the cards that nobody has
-- seen: those of the order that are not drawn, and the bank's behind the up card, which the box deals face down (request 2.7).
use Rattle.std.specs.Prelude.{cond, List, [], ◌∷◌, ◌++◌, ℕ, zero, suc, eqb, drop, replicate}
use Rattle.lists.specs.Sum.{count_of}
use Rattle.call.specs.Refusal.{Condition, first}
use Rattle.table.specs.declared.Table.{Table}
use Rattle.table.specs.Broken.{broken}
use Rattle.table.specs.Table.{bank_cards, table_shoe, up}
use Rattle.answer.specs.Conditions.{in_round}
use Rattle.faces_left.specs.declared.FacesLeft.{FacesLeft}

abbrev pub unseen : Table → List ℕ
unseen t = table_shoe t ++ drop 1 (bank_cards t)

-- How often each face below a number is among the cards.
unfoldable pub counts_below : List ℕ → ℕ → List ℕ
counts_below cards zero = []
counts_below cards (suc face) = counts_below cards face ++ (count_of face cards ∷ [])

-- 1 a broken table, 5 no round is dealt.
abbrev pub faces_conditions : Table → List Condition
faces_conditions t = (1, broken t) ∷ in_round t ∷ []

abbrev pub make_faces : ℕ → ℕ → List ℕ → FacesLeft
make_faces number up left = record { number = number; up = up; left = left }

-- The up card and the 52 counts. Refused: zeros.
unfoldable pub faces_left : Table → FacesLeft
faces_left t =
    cond (eqb (first (faces_conditions t)) 0) (make_faces 0 (up t) (counts_below (unseen t) 52)) (make_faces (first (faces_conditions t)) 0 (replicate 52 0))
