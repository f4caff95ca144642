-- Why it is refused, or the effect: the tray holds an accepted amount.
use mathlib.Core.Path.{sym}
use Rattle.answer.proofs.outcome.Laws.{refused-whole, accepted}
use Rattle.cashier_spec.specs.Credit.{credit_effect}
use Rattle.cashier_spec.proofs.Credit.{credit-accepted}
use Rattle.cashier.proofs.credit.credit.Goals as goal

pub returns-in_err-check_credit : goal.returns-in_err-check_credit
returns-in_err-check_credit c = refused-whole _ _ _ _ _ c.from_residual.ensures.1 c.in_err-check_credit.ensures

pub overflow_sub-t : goal.overflow_sub-t
overflow_sub-t c = rw c.table-t.ensures.same (credit-accepted c.args.t.now c.args.n (sym c.in_ok-check_credit.ensures)).enough

pub returns : goal.returns
unfolding credit_effect
returns c = accepted _ _ _ c.in_ok-check_credit.ensures (rw (c.with_tray.ensures, c.table-t.ensures.same))
