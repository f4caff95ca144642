-- The conditions are asked in the order of the list.
use Rattle.call.specs.Refusal.{first}
use Rattle.cashier_spec.specs.Opening.{open_conditions}
use Rattle.cashier.proofs.opening.check_opening.Goals as goal

pub returns : goal.returns
unfolding open_conditions first
returns c = simp (c.first_refusal.ensures, c.valid_order.ensures, c.in_range.ensures)
