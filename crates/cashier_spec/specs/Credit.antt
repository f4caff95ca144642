-- Document 01, "The seventeen calls", the house: "fill, credit: tray up, tray down". A credit's conditions, and its effect: the tray falls by the
-- amount, and nothing else changes.
use Rattle.std.specs.Prelude.{List, [], ◌∷◌, ℕ, ◌-◌, eqb, ltb}
use Rattle.call.specs.Refusal.{Condition}
use Rattle.table.specs.declared.Table.{Table}
use Rattle.table.specs.Table.{with_tray}
use Rattle.table.specs.Broken.{broken}
use Rattle.answer.specs.Conditions.{between_rounds}

-- 1 broken, 4 a round is dealt, 14 amount 0, 16 the tray below the credit.
unfoldable pub credit_conditions : Table → ℕ → List Condition
credit_conditions t n = (1, broken t) ∷ between_rounds t ∷ (14, eqb n 0) ∷ (16, ltb t.tray n) ∷ []

unfoldable pub credit_effect : Table → ℕ → Table
credit_effect t n = with_tray t (t.tray - n)
