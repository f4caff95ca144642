-- The conditions are asked in the order of the list: those of every call of a guest first.
use mathlib.Core.Path.{refl}
use Rattle.call.specs.Refusal.{first}
use Rattle.answer.proofs.conditions.Laws.{refused-check, behind-guest}
use Rattle.cashier_spec.specs.Cash.{cash_conditions}
use Rattle.cashier.proofs.cash.check_cash.Goals as goal

pub returns-in_err-guest : goal.returns-in_err-guest
unfolding cash_conditions
returns-in_err-guest c = refused-check _ _ _ c.from_residual.ensures.1 c.in_err-guest.ensures.number _

pub returns : goal.returns
unfolding cash_conditions first
returns c =
    rw c.and.ensures (behind-guest _ _ _ _ refl c.in_ok-guest.ensures.number c.in_ok-guest.ensures.guest _ _ (simp (
      c.first_refusal.ensures,
      c.guest_money-money.ensures,
      c.table.ensures.same,
      c.in_ok-guest.ensures.guest,
    )))
