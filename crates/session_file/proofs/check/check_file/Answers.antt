-- The length by the library's chunks; else the first block, then those behind it.
use Rattle.std.proofs.Common.{◌≡◌, rules, sym, ◌∙◌, length, ◌%◌}
use borrow.Author.Tests.{eqb-false, eqb-true, ne_eqb}
use Rattle.call.specs.Refusal.{number_in, number_of}
use Rattle.call.proofs.Refusals.{refusal_some}
use Rattle.session_file.proofs.Blocks.{wrong_length, no_block, first_block}
use Rattle.session_file.proofs.check.check_file.Goals as goal

pub returns-then-not-is_empty : goal.returns-then-not-is_empty
returns-then-not-is_empty c =
    wrong_length c.args.file.now (λ e. eqb-false _ 0 (sym c.is_empty.ensures ∙ c.if-not-is_empty.true) (c.as_chunks.ensures.back_len ∙ e))

pub returns-in_default : goal.returns-in_default
returns-in_default c =
    let none : length c.as_chunks.result.0.now ≡ 0 = search rules in
    no_block c.args.file.now (sym c.as_chunks.ensures.front_len ∙ none)

pub returns-in_err-check_table : goal.returns-in_err-check_table
returns-in_err-check_table c =
    let same : number_in c.from_residual.result ≡ number_of c.in_err-check_table.field-0.0 = search rules in
    let whole : length c.args.file.now % 512 ≡ 0 = sym c.as_chunks.ensures.back_len ∙ eqb-true _ 0 (sym c.is_empty.ensures ∙ c.if-not-is_empty.false) in
    let number = first_block c.args.file.now c.in-Some.start.now c.in-Some.behind.now whole (sym c.as_chunks.ensures.front ∙ c.in-Some.ensures.cases.0) in
    same ∙ sym (number ∙ rw (← c.in_err-check_table.ensures, ne_eqb _ 0 (refusal_some c.in_err-check_table.field-0.0)))

pub returns : goal.returns
returns c =
    let whole : length c.args.file.now % 512 ≡ 0 = sym c.as_chunks.ensures.back_len ∙ eqb-true _ 0 (sym c.is_empty.ensures ∙ c.if-not-is_empty.false) in
    let number = first_block c.args.file.now c.in-Some.start.now c.in-Some.behind.now whole (sym c.as_chunks.ensures.front ∙ c.in-Some.ensures.cases.0) in
    c.check_behind.ensures ∙ sym (number ∙ rw (← c.in_ok-check_table.ensures))
