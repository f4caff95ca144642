-- Why it is refused, or the effect: an accepted order has room in the shoe's array.
use mathlib.Core.Path.{sym}
use Rattle.answer.proofs.outcome.Laws.{refused-whole, accepted}
use Rattle.cashier_spec.specs.Load.{load_effect}
use Rattle.cashier_spec.proofs.Load.{load_fits}
use Rattle.cashier.proofs.load.load.Goals as goal

pub returns-in_err-check_load : goal.returns-in_err-check_load
returns-in_err-check_load c = refused-whole _ _ _ _ _ c.from_residual.ensures.1 c.in_err-check_load.ensures

pub new_shoe-requires : goal.new_shoe-requires
new_shoe-requires c = load_fits c.args.t.now c.args.order.now (sym c.in_ok-check_load.ensures)

pub returns : goal.returns
unfolding load_effect
returns c = accepted _ _ _ c.in_ok-check_load.ensures (simp (c.with_shoe.ensures, c.new_shoe.ensures, c.table-t.ensures.same))
