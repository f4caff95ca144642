-- Several cards, named two letters each.
use Rattle.std.specs.Prelude.{cond, List, [], ◌∷◌, ◌++◌, ℕ, zero, suc, ◌+◌, ◌*◌, ◌/◌, leb, length, get_or}
use Rattle.script.specs.Cards.{card_named}

-- The card that has this place among them; behind the last letter 0.
unfoldable pub card_at : List ℕ → ℕ → ℕ
card_at letters place = cond (leb (length letters / 2) place) 0 (card_named (get_or letters (2 * place) 0) (get_or letters (2 * place + 1) 0))

-- Those of the places below a number.
unfoldable pub cards_below : List ℕ → ℕ → List ℕ
cards_below letters zero = []
cards_below letters (suc place) = cards_below letters place ++ (card_at letters place ∷ [])
