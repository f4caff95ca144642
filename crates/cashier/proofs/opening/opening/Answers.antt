-- Why it is refused, or a table of these options and this order: an accepted order has room in the shoe's array.
use mathlib.Core.Path.{sym}
use Rattle.answer.proofs.outcome.Laws.{refused-whole, accepted}
use Rattle.cashier_spec.proofs.Opening.{open_fits}
use Rattle.cashier.proofs.opening.opening.Goals as goal

pub returns-in_err-check_opening : goal.returns-in_err-check_opening
returns-in_err-check_opening c = λ there. refused-whole _ _ _ _ _ c.from_residual.ensures.1 c.in_err-check_opening.ensures

pub new_shoe-requires : goal.new_shoe-requires
new_shoe-requires c = open_fits c.args.o c.args.order.now (sym c.in_ok-check_opening.ensures)

pub returns : goal.returns
returns c = λ there. accepted _ _ _ c.in_ok-check_opening.ensures (simp (c.table_of.ensures, c.new_shoe.ensures))
