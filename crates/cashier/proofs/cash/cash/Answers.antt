-- Why it is refused, or the effect: the guest's purse holds the amount.
use mathlib.Core.Path.{sym, ◌∙◌, ap}
use native.Mathlib.Omega.{arith}
use Rattle.table.specs.declared.Money.{Money}
use Rattle.answer.proofs.moved.Laws.{seat_moves, money_read}
use Rattle.answer.proofs.outcome.Laws.{refused-seat, accepted}
use Rattle.cashier_spec.specs.Cash.{cash_effect}
use Rattle.cashier_spec.proofs.Cash.{cash-accepted}
use Rattle.cashier.proofs.cash.cash.Goals as goal

pub returns-in_err-guest : goal.returns-in_err-guest
returns-in_err-guest c = refused-seat _ _ _ _ _ _ c.from_residual.ensures.1 c.in_err-guest.ensures.number

pub overflow_sub-guest_money : goal.overflow_sub-guest_money
overflow_sub-guest_money c =
    omega (arith, ap (λ (m : Money). m.purse) (money_read _ _ _ _ c.table-t.ensures.same c.in_ok-guest.ensures.guest c.guest_money.ensures), (cash-accepted c.args.t.now c.args.at.seat c.args.at.position c.args.n (sym c.in_ok-guest.ensures.number)).enough)

pub returns : goal.returns
unfolding cash_effect
returns c =
    accepted _ _ _ c.in_ok-guest.ensures.number
    (seat_moves c.args.t.now _ (rw (c.table-t.ensures.same, c.in_ok-guest.ensures.guest) at c.purse_moved.ensures) ∙ simp (money_read _ _ _ _ c.table-t.ensures.same c.in_ok-guest.ensures.guest c.guest_money.ensures))
