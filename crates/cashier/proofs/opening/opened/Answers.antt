-- The opening's outcome, over the empty table.
use mathlib.Core.Path.{◌∙◌}
use Rattle.cashier_spec.specs.Opening.{empty_table}
use Rattle.cashier.proofs.opening.opened.Goals as goal

pub returns : goal.returns
returns c = (rw c.empty_table.ensures at c.outcome_in.ensures) ∙ c.opening.ensures empty_table
