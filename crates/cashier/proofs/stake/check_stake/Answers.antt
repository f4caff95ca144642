-- The conditions are asked in the order of the list: those of every call of a guest first.
use mathlib.Core.Path.{refl}
use Rattle.call.specs.Refusal.{first}
use Rattle.answer.proofs.conditions.Laws.{refused-check, behind-guest}
use Rattle.cashier_spec.specs.Stake.{stake_conditions}
use Rattle.cashier.proofs.stake.check_stake.Goals as goal

pub returns-in_err-guest : goal.returns-in_err-guest
unfolding stake_conditions
returns-in_err-guest c = refused-check _ _ _ c.from_residual.ensures.1 c.in_err-guest.ensures.number _

pub returns : goal.returns
unfolding stake_conditions first
returns c =
    rw c.and.ensures (behind-guest _ _ _ _ refl c.in_ok-guest.ensures.number c.in_ok-guest.ensures.guest _ _ (simp (
      c.first_refusal.ensures,
      c.stake_permitted.ensures,
      c.before_seated.ensures,
      c.guest_money-money.ensures,
      c.guest_seat.ensures,
      c.table-t.ensures.same,
      c.in_ok-guest.ensures.guest,
    )))
