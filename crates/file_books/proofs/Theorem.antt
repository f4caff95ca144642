-- The theorems of a written session, put together of what the blocks give.
use mathlib.Core.Path.{◌≡◌, refl, ◌∙◌, ap, subst}
use mathlib.Core.Bool.{true}
use mathlib.Core.List.{List, []}
use Prim.Native.Nat.{ℕ}
use borrow.Author.Tests.{not-false}
use Rattle.call.proofs.Refusals.{none_hold}
use Rattle.lists.specs.Tests.{all_of}
use Rattle.options.specs.declared.Options.{Options}
use Rattle.options.specs.Ranges.{in_range}
use Rattle.table.specs.Shoe.{valid_order}
use Rattle.history.specs.Entry.{Entry}
use Rattle.cashier_spec.specs.Opening.{open_conditions, open_number, opened}
use Rattle.engine.specs.Run.{run, accepted}
use Rattle.books.specs.Books.{Claim}
use Rattle.books.proofs.Theorem.{books}
use Rattle.file_spec.specs.Handed.{file_calls}
use Rattle.file_books.specs.Written.{called_in, session_file, WrittenFile, FileOpens}
use Rattle.file_spec.proofs.WholeFiles.{file_bytes, file_number_lem, file_options_lem, file_order_lem, file_calls_lem}
use Rattle.file_spec.proofs.Writers.{writer_gives}
use Rattle.file_books.proofs.Playing.{writable-called, kept-played}
use Rattle.file_spec.proofs.OneFile.{opens_as_read}

-- an accepted opening: options in range, a valid order
open_tests : (o : Options) (order : List ℕ) → open_number o order ≡ 0 → (in_range o ≡ true) × (valid_order o.decks order ≡ true)
unfolding open_number open_conditions all_of
open_tests o order e = let (range, (valid, _)) = none_hold (open_conditions o order) refl e in (not-false (in_range o) range, not-false (valid_order o.decks order) valid)

pub written_file : WrittenFile
written_file o order calls opens =
    let es : List Entry = called_in o order calls in
    let ok = writable-called o order calls opens in
    let (range, valid) = open_tests o order opens in
    let back = file_calls_lem o order es range valid ok in
    let table : run (opened o order) (file_calls (session_file o order calls)) ≡ run (opened o order) calls = ap (run (opened o order)) back ∙ kept-played (opened o order) calls in
    record {
      writable_all = ok;
      writer_gives = writer_gives o order es range valid ok;
      bytes = file_bytes o order es range valid ok;
      number_0 = file_number_lem o order es range valid ok;
      options_back = file_options_lem o order es range valid ok;
      order_back = file_order_lem o order es range valid ok;
      calls_back = back;
      same_table = table;
      same_books = subst (Claim o order (accepted (opened o order) (file_calls (session_file o order calls)) [])) table (books o order opens (file_calls (session_file o order calls)));
    }

pub file_opens : FileOpens
file_opens file bytes zero_number = opens_as_read file zero_number bytes
