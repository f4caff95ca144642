-- Document 01, "The seventeen calls", the house: "load: a new order of 52 × decks cards, each face as often as there are decks. The old shoe's cards, its
-- discards too, leave the table." A load's conditions, and its effect: a new shoe of the lent order, and nothing else changes.
use Rattle.std.specs.Prelude.{not, List, [], ◌∷◌, ℕ}
use Rattle.call.specs.Refusal.{Condition}
use Rattle.table.specs.declared.Table.{Table}
use Rattle.table.specs.Shoe.{valid_order, new_shoe}
use Rattle.table.specs.Table.{with_shoe}
use Rattle.table.specs.Broken.{broken}
use Rattle.answer.specs.Conditions.{between_rounds}

-- 1 broken, 3 wrong length, card or count, 4 a round is dealt.
unfoldable pub load_conditions : Table → List ℕ → List Condition
load_conditions t order = (1, broken t) ∷ (3, not (valid_order t.options.decks order)) ∷ between_rounds t ∷ []

unfoldable pub load_effect : Table → List ℕ → Table
load_effect t order = with_shoe t (new_shoe t.shoe.begun order)
