-- The conditions behind the check are one test.
use mathlib.Core.Path.{◌≡◌, sym, ◌∙◌}
use mathlib.Core.Bool.{false}
use Rattle.call.specs.Refusal.{first}
use Rattle.file_spec.specs.Block.{checks}
use Rattle.file_spec.specs.CallBlock.{call_conditions}
use Rattle.file_block.proofs.Conditions.{has_calls-first}
use Rattle.file_block.proofs.call_block.check_calls.Goals as goal

pub returns-then-not-checks : goal.returns-then-not-checks
unfolding first call_conditions
returns-then-not-checks c = let wrong : checks c.args.block.now ≡ false = sym c.checks.ensures ∙ c.if-not-checks.true in rw wrong

pub returns-then-not-has_calls : goal.returns-then-not-has_calls
returns-then-not-has_calls c =
    sym (has_calls-first c.args.last c.args.block.now (sym c.checks.ensures ∙ c.if-not-checks.false) ∙ rw (← c.has_calls.ensures, c.if-not-has_calls.true))

pub returns : goal.returns
returns c =
    sym (has_calls-first c.args.last c.args.block.now (sym c.checks.ensures ∙ c.if-not-checks.false) ∙ rw (← c.has_calls.ensures, c.if-not-has_calls.false))
