-- The conditions of a table block, then the options.
use mathlib.Core.Path.{◌≡◌, sym, ◌∙◌, refl}
use mathlib.Core.Bool.{not}
use mathlib.Core.List.{List, [], ◌∷◌}
use Rattle.std.proofs.Common.{rules}
use Rattle.call.specs.Refusal.{number_in, number_of, first, Condition}
use Rattle.call.proofs.Refusals.{first-before, first-behind, refusal_some}
use Rattle.lists.specs.Tests.{all_of}
use Rattle.file_spec.specs.TableBlock.{table_conditions, same_options, loaded_conditions}
use Rattle.file_block.proofs.table_block.check_loaded.Goals as goal

pub returns-in_err-check_table : goal.returns-in_err-check_table
unfolding loaded_conditions
returns-in_err-check_table c =
    let args = c.args in
    let same : number_in c.from_residual.result ≡ number_of c.in_err-check_table.field-0.0 = search rules in
    same ∙ c.in_err-check_table.ensures ∙ sym (first-before (table_conditions args.block.now) ((26, not (same_options args.start.now args.block.now)) ∷ []) _ refl (λ none. refusal_some c.in_err-check_table.field-0.0 (c.in_err-check_table.ensures ∙ none)))

pub returns-then-not-same_options : goal.returns-then-not-same_options
unfolding loaded_conditions first all_of table_conditions
returns-then-not-same_options c =
    let args = c.args in
    let rest : List Condition = (26, not (same_options args.start.now args.block.now)) ∷ [] in
    sym (first-behind (table_conditions args.block.now) rest refl (sym c.in_ok-check_table.ensures) ∙ rw (← c.same_options.ensures, c.if-not-same_options.true))

pub returns : goal.returns
unfolding loaded_conditions first all_of table_conditions
returns c =
    let args = c.args in
    let rest : List Condition = (26, not (same_options args.start.now args.block.now)) ∷ [] in
    sym (first-behind (table_conditions args.block.now) rest refl (sym c.in_ok-check_table.ensures) ∙ rw (← c.same_options.ensures, c.if-not-same_options.false))
