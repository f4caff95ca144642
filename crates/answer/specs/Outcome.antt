-- Document 01, "Who can bring about which number": the first number whose condition holds, and then the table as it was; an accepted call gives 0
-- and its effect.
use Rattle.std.specs.Prelude.{cond, List, ℕ, eqb, Result, Ok, Err}
use Rattle.call.specs.declared.refusal.Refusal.{Refusal}
use Rattle.call.specs.Refusal.{Condition, first, number_of}
use Rattle.table.specs.declared.Table.{Table}
use Rattle.answer.specs.declared.outcome.Outcome.{Outcome}

abbrev pub make_outcome : ℕ → Table → Outcome
make_outcome number table = record { number = number; table = table }

-- `effect` is the table after the accepted call, `refused` the one after a refused call.
unfoldable pub outcome : List Condition → Table → Table → Outcome
outcome conditions effect refused = make_outcome (first conditions) (cond (eqb (first conditions) 0) effect refused)

-- The outcome of a call that gives the table after it, or why it is refused: then the table t is as it was.
abbrev pub outcome_in : Table → Result Table Refusal → Outcome
outcome_in t (Ok next) = make_outcome 0 next
outcome_in t (Err why) = make_outcome (number_of why) t
