-- Laws beside the theorem: its first table is the one that the code's opening returns, an accepted call keeps a whole table whole, and the accepted calls
-- alone give the same table.
use Rattle.std.specs.Prelude.{◌≡◌, false, List, [], reverse, ℕ}
use Rattle.call.specs.declared.Call.{Call}
use Rattle.options.specs.declared.Options.{Options}
use Rattle.table.specs.declared.Table.{Table}
use Rattle.table.specs.Shape.{Shaped}
use Rattle.table.specs.Broken.{broken}
use Rattle.history.specs.Entry.{Entry}
use Rattle.answer.specs.Outcome.{make_outcome, outcome}
use Rattle.cashier_spec.specs.Opening.{open_conditions, open_table, empty_table, open_number, opened}
use Rattle.engine.specs.Step.{number, effect}
use Rattle.engine.specs.Run.{run, accepted}

-- What the contract of the code's opening gives is the number and the table that the theorem begins with.
abbrev pub Opens : Options → List ℕ → Type 0
Opens o order = outcome (open_conditions o order) (open_table o order) empty_table ≡ make_outcome (open_number o order) (opened o order)

-- A table value whose arrays have their lengths and that is not broken: reached by calls or not.
pub record Whole (t : Table) : Type 0 where
  pub shaped : Shaped t
  pub sound : broken t ≡ false

-- An accepted call leaves such a table such a table.
abbrev pub Keeps : Table → Call → List ℕ → Type 0
Keeps t c order = Whole t → number t c order ≡ 0 → Whole (effect t c order)

-- Playing only the accepted calls of a run, in their order, gives the same table, and all of them are accepted.
pub record Replayed (t : Table) (calls : List Entry) : Type 0 where
  pub same_table : run t (reverse (accepted t calls [])) ≡ run t calls
  pub all_accepted : accepted t (reverse (accepted t calls [])) [] ≡ accepted t calls []
