-- Request 2.9: what is claimed of a written session, for every options, every order and every list of calls, refused ones among them.
use Rattle.std.specs.Prelude.{◌≡◌, true, List, [], ◌++◌, map, reverse, ℕ}
use Rattle.lists.specs.Tests.{all_of}
use Rattle.lists.specs.Flat.{flat}
use Rattle.options.specs.declared.Options.{Options}
use Rattle.history.specs.Entry.{Entry}
use Rattle.cashier_spec.specs.Opening.{open_number, opened}
use Rattle.engine.specs.Run.{run, accepted}
use Rattle.books.specs.Books.{Claim}
use Rattle.file_spec.specs.Block.{Bytes}
use Rattle.file_spec.specs.File.{file_of, writable}
use Rattle.file_spec.specs.Number.{file_number}
use Rattle.file_spec.specs.Handed.{file_options, file_order, file_calls}
use Rattle.file_spec.specs.Writer.{begun, writes}
use Rattle.file_spec.specs.Laws.{kept}

-- The accepted calls of a session, oldest first.
abbrev pub called_in : Options → List ℕ → List Entry → List Entry
called_in o order calls = reverse (accepted (opened o order) calls [])

-- The file of the session that opens with these options and this order and then has these calls.
abbrev pub session_file : Options → List ℕ → List Entry → List ℕ
session_file o order calls = file_of o order (called_in o order calls)

-- A written session, opened with number 0.
pub record Written (o : Options) (order : List ℕ) (calls : List Entry) : Type 0 where
  -- the writer refuses none of the accepted calls, and what it gives out, block by block, is the session's file
  pub writable_all : all_of (writable o) (called_in o order calls) ≡ true
  pub writer_gives : flat (λ block. block) (begun o order).blocks ++ flat (λ block. block) (writes o 0 [] (called_in o order calls)) ≡ session_file o order calls
  -- it is a file of bytes, and not refused
  pub bytes : Bytes (session_file o order calls)
  pub number_0 : file_number (session_file o order calls) ≡ 0
  -- reading it gives back options and order of the opening and the accepted calls, loads with their orders
  pub options_back : file_options (session_file o order calls) ≡ o
  pub order_back : file_order (session_file o order calls) ≡ order
  pub calls_back : file_calls (session_file o order calls) ≡ map kept (called_in o order calls)
  -- playing what was read gives the same table and the same books
  pub same_table : run (opened o order) (file_calls (session_file o order calls)) ≡ run (opened o order) calls
  pub same_books : Claim o order (accepted (opened o order) (file_calls (session_file o order calls)) []) (run (opened o order) calls)

abbrev pub WrittenFile : Type 0
WrittenFile = (o : Options) (order : List ℕ) (calls : List Entry) → open_number o order ≡ 0 → Written o order calls

-- A file of number 0 opens a table.
abbrev pub FileOpens : Type 0
FileOpens = (file : List ℕ) → Bytes file → file_number file ≡ 0 → open_number (file_options file) (file_order file) ≡ 0
