-- Why it is refused, or the effect: an accepted amount has room beside all the money there is.
use mathlib.Core.Path.{sym}
use native.Mathlib.Omega.{arith}
use Rattle.answer.proofs.outcome.Laws.{refused-whole, accepted}
use Rattle.cashier_spec.specs.Fill.{fill_effect}
use Rattle.cashier_spec.proofs.Fill.{fill-accepted}
use Rattle.cashier.proofs.fill.fill.Goals as goal

pub returns-in_err-check_fill : goal.returns-in_err-check_fill
returns-in_err-check_fill c = refused-whole _ _ _ _ _ c.from_residual.ensures.1 c.in_err-check_fill.ensures

pub overflow_add-t : goal.overflow_add-t
overflow_add-t c =
    let room = (fill-accepted c.args.t.now c.args.n (sym c.in_ok-check_fill.ensures)).in_limit in
    rw c.table-t.ensures.same (omega (arith, room))

pub returns : goal.returns
unfolding fill_effect
returns c = accepted _ _ _ c.in_ok-check_fill.ensures (rw (c.with_tray.ensures, c.table-t.ensures.same))
