-- What is left to play.
use Rattle.std.specs.Prelude.{◌≡◌, List, ℕ}
use Rattle.table.specs.declared.Table.{Table}
use Rattle.history.specs.Entry.{Entry}
use Rattle.engine.specs.Run.{run}
use Rattle.file_spec.specs.Reader.{first_place, Reads}
use Rattle.replaying.specs.Playing.{first_table}

-- At a place, with a table: what is still to come leads to the table of all calls.
pub record Rest (file : List ℕ) (at : ℕ) (t : Table) (calls : List Entry) : Type 0 where
  pub rest : List Entry
  pub reads : Reads file at rest
  pub same : run t rest ≡ run (first_table file) calls

abbrev pub Left : List ℕ → ℕ → Table → Type 0
Left file at t = (calls : List Entry) → Reads file (first_place file) calls → Rest file at t calls
