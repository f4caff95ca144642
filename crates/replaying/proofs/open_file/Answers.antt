-- A refused file opens nothing; of any other the first block says what its session opens with, and what it says opens.
use mathlib.Core.Path.{◌≡◌, refl, sym, ap, ◌∙◌, subst}
use mathlib.Core.List.{List}
use Prim.Native.Nat.{ℕ, ◌≤◌}
use borrow.Author.Tests.{eq-eqb, ne_eqb, le-leb}
use native.Mathlib.Omega.{arith}
use lib.ListN.{length}
use Rattle.answer.specs.Outcome.{make_outcome, outcome}
use Rattle.answer.specs.declared.outcome.Outcome.{Outcome}
use Rattle.options.specs.declared.Options.{Options}
use Rattle.cashier_spec.specs.Opening.{open_conditions, open_table, empty_table, open_number, opened}
use Rattle.books.proofs.Opens.{opens}
use Rattle.file_spec.specs.Number.{file_number}
use Rattle.file_spec.specs.Handed.{file_options, file_order}
use Rattle.file_spec.proofs.OneFile.{opens_as_read}
use Rattle.call.proofs.Refusals.{residual, refusal_some}
use Rattle.std.specs.Prelude.{Result}
use Rattle.call.specs.declared.refusal.Refusal.{Refusal}
use Rattle.table.specs.declared.Table.{Table}
use Rattle.replaying.specs.Playing.{outcome_of, Opened}
use Rattle.replaying.proofs.Plays.{open_whole, has_block, all_bytes}
use Rattle.replaying.proofs.open_file.Goals.{After-opening, In_ok-opening}
use Rattle.replaying.proofs.open_file.Goals as goal

pub returns-in_err-check_file : goal.returns-in_err-check_file
returns-in_err-check_file c =
    let why = c.in_err-check_file.field-0.0 in
    let number = c.in_err-check_file.ensures in
    let same = residual c.from_residual.result {why = why} c.from_residual.ensures.1 in
    rw same (record {
      number = number ∙ rw (ne_eqb (file_number c.args.file.now) 0 (λ e. refusal_some why (number ∙ e)));
      table = λ e. absurd (refusal_some why e);
      whole = λ e. absurd (refusal_some why e);
    })

opened_as : (c : After-opening) → Opened c.args.file.now (outcome_of c.opening.result)
opened_as c =
    let file = c.args.file.now in
    let o = file_options file in
    let order = file_order file in
    let right : file_number file ≡ 0 = sym c.in_ok-check_file.ensures in
    let long : 512 ≤ length file = has_block file right in
    let options : c.file_options.result ≡ o = c.file_options.ensures ∙ rw (le-leb 512 (length file) long) in
    let made : outcome_of c.opening.result ≡ make_outcome (open_number o order) (opened o order)
    = c.opening.ensures empty_table
    ∙ ap (λ (x : Options). outcome (open_conditions x c.file_order.result.now) (open_table x c.file_order.result.now) empty_table) options
    ∙ ap (λ (l : List ℕ). outcome (open_conditions o l) (open_table o l) empty_table) c.file_order.ensures
    ∙ opens o order in
    let table : (outcome_of c.opening.result).table ≡ opened o order = ap (λ (r : Outcome). r.table) made in
    let number : open_number o order ≡ 0 = opens_as_read file right (all_bytes file (λ i. omega (arith, c.type_inv.file i))) in
    record {
      number = ap (λ (r : Outcome). r.number) made ∙ sym (rw (eq-eqb (file_number file) 0 right) refl);
      table = λ e. table;
      whole = λ e. rw table (open_whole o order number);
    }

pub returns-in_err-opening : goal.returns-in_err-opening
returns-in_err-opening c =
    let same = residual c.from_residual-in_err-opening.result c.from_residual-in_err-opening.ensures.1 in
    subst (λ (r : Result Table Refusal). Opened c.args.file.now (outcome_of r)) (c.in_err-opening.was ∙ sym same) (opened_as (goal.at.returns-in_err-opening c).After-opening)

given : (c : In_ok-opening) → Opened c.args.file.now (outcome_of c.opening.result) → Opened c.args.file.now (make_outcome 0 c.in_ok-opening.field-0)
given c opens = subst (λ (r : Result Table Refusal). Opened c.args.file.now (outcome_of r)) c.in_ok-opening.was opens

pub new-requires : goal.new-requires
new-requires c =
    let at = goal.at.new-requires c in
    ((given at.In_ok-opening (opened_as at.After-opening)).whole refl).sound

pub returns : goal.returns
returns c =
    let at = goal.at.returns c in
    subst (λ (t : Table). Opened c.args.file.now (make_outcome 0 t)) (sym c.new.ensures) (given at.In_ok-opening (opened_as at.After-opening))
