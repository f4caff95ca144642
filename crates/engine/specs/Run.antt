-- Document 01, "The history": each call gets the table that the one before it returned, refused or not.
use Rattle.std.specs.Prelude.{cond, List, [], ◌∷◌, eqb}
use Rattle.table.specs.declared.Table.{Table}
use Rattle.history.specs.Entry.{Entry}
use Rattle.call.specs.Answer.{Answer}
use Rattle.engine.specs.Step.{step, number, next}

-- The table after a list of calls, oldest first.
unfoldable pub run : Table → List Entry → Table
run t [] = t
run t (e ∷ es) = run (next t e.call e.order) es

-- The accepted calls of that list, those whose number was 0, newest first and before the ones already known.
unfoldable pub accepted : Table → List Entry → List Entry → List Entry
accepted t [] known = known
accepted t (e ∷ es) known =
    accepted (next t e.call e.order) es (cond (eqb (number t e.call e.order) 0) (e ∷ known) known)

-- The answers to that list, accepted and refused, oldest first.
unfoldable pub answers : Table → List Entry → List Answer
answers t [] = []
answers t (e ∷ es) = (step t e.call e.order).answer ∷ answers (next t e.call e.order) es
