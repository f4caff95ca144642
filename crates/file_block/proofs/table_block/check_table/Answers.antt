-- The conditions behind the check are one test.
use mathlib.Core.Path.{◌≡◌, sym, ◌∙◌}
use mathlib.Core.Bool.{false}
use Rattle.call.specs.Refusal.{first}
use Rattle.file_spec.specs.Block.{checks}
use Rattle.file_spec.specs.TableBlock.{table_conditions}
use Rattle.file_block.proofs.Conditions.{table_first}
use Rattle.file_block.proofs.table_block.check_table.Goals as goal

pub returns-then-not-checks : goal.returns-then-not-checks
unfolding first table_conditions
returns-then-not-checks c = let wrong : checks c.args.block.now ≡ false = sym c.checks.ensures ∙ c.if-not-checks.true in rw wrong

pub returns-then-not-has_table : goal.returns-then-not-has_table
returns-then-not-has_table c =
    sym (table_first c.args.block.now (sym c.checks.ensures ∙ c.if-not-checks.false) ∙ rw (← c.has_table.ensures, c.if-not-has_table.true))

pub returns : goal.returns
returns c =
    sym (table_first c.args.block.now (sym c.checks.ensures ∙ c.if-not-checks.false) ∙ rw (← c.has_table.ensures, c.if-not-has_table.false))
