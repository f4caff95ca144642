-- Request 2.9: "Reading a written session and playing it gives the same books." What playing a file gives: the table that its session opens with, then each call that the reader hands out is a
-- step, accepted or refused.
use Rattle.std.specs.Prelude.{◌≡◌, Result, List, ℕ}
use Rattle.call.specs.declared.refusal.Refusal.{Refusal}
use Rattle.answer.specs.Outcome.{outcome_in}
use Rattle.answer.specs.declared.outcome.Outcome.{Outcome}
use Rattle.table.specs.declared.Table.{Table}
use Rattle.history.specs.Entry.{Entry}
use Rattle.cashier_spec.specs.Opening.{open_number, opened, empty_table}
use Rattle.engine.specs.Run.{run}
use Rattle.books.specs.Laws.{Whole}
use Rattle.file_spec.specs.Number.{or_else, file_number}
use Rattle.file_spec.specs.Block.{Bytes}
use Rattle.file_spec.specs.Handed.{file_options, file_order, file_calls}
use Rattle.file_spec.specs.Reader.{first_place, Reads}

-- The number of a file, else that of its opening, and the table that it opens with.
abbrev pub play_number : List ℕ → ℕ
play_number file = or_else (file_number file) (open_number (file_options file) (file_order file))

abbrev pub first_table : List ℕ → Table
first_table file = opened (file_options file) (file_order file)

-- What is given, as a number and a table; a refused file gives the empty table.
abbrev pub outcome_of : Result Table Refusal → Outcome
outcome_of r = outcome_in empty_table r

-- What opening a file gives; at number 0 the table is the opened one, and whole.
pub record Opened (file : List ℕ) (r : Outcome) : Type 0 where
  pub number : r.number ≡ play_number file
  pub table : r.number ≡ 0 → r.table ≡ first_table file
  pub whole : r.number ≡ 0 → Whole r.table

-- What playing it gives: at number 0 the table after all calls that a reader hands out, one after another.
pub record Played (file : List ℕ) (r : Outcome) : Type 0 where
  pub number : r.number ≡ play_number file
  pub table : r.number ≡ 0 → (calls : List Entry) → Reads file (first_place file) calls → r.table ≡ run (first_table file) calls
  pub whole : r.number ≡ 0 → Whole r.table

-- A file that is not refused opens, and playing it gives the table after its calls.
pub record PlaysCalls (file : List ℕ) : Type 0 where
  pub opens : play_number file ≡ 0
  pub plays : (r : Outcome) → Played file r → r.table ≡ run (first_table file) (file_calls file)

abbrev pub PlaysFile : Type 0
PlaysFile = (file : List ℕ) → Bytes file → file_number file ≡ 0 → PlaysCalls file
