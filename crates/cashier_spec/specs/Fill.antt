-- Document 01, "The seventeen calls", the house: "fill, credit: tray up, tray down". A fill's conditions, and its effect: the tray grows by the amount,
-- and nothing else changes.
use Rattle.std.specs.Prelude.{List, [], ◌∷◌, ℕ, ◌+◌, eqb}
use Rattle.call.specs.Refusal.{Condition}
use Rattle.table.specs.declared.Table.{Table}
use Rattle.table.specs.Table.{with_tray}
use Rattle.table.specs.Money.{past_most_money}
use Rattle.table.specs.Broken.{broken}
use Rattle.answer.specs.Conditions.{between_rounds}

-- 1 broken, 4 a round is dealt, 14 amount 0 or money past 10^15.
unfoldable pub fill_conditions : Table → ℕ → List Condition
fill_conditions t n = (1, broken t) ∷ between_rounds t ∷ (14, eqb n 0) ∷ (14, past_most_money t n) ∷ []

unfoldable pub fill_effect : Table → ℕ → Table
fill_effect t n = with_tray t (t.tray + n)
