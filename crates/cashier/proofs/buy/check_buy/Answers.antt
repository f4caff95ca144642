-- The conditions are asked in the order of the list: those of every call of a guest first.
use mathlib.Core.Path.{refl}
use Rattle.call.specs.Refusal.{first}
use Rattle.money.proofs.most_money.Laws.{past_limit}
use Rattle.answer.proofs.conditions.Laws.{refused-check, behind-guest}
use Rattle.cashier_spec.specs.Buy.{buy_conditions}
use Rattle.cashier.proofs.buy.check_buy.Goals as goal

pub returns-in_err-guest : goal.returns-in_err-guest
unfolding buy_conditions
returns-in_err-guest c = refused-check _ _ _ c.from_residual.ensures.1 c.in_err-guest.ensures.number _

pub returns : goal.returns
unfolding buy_conditions first
returns c =
    rw c.and.ensures (behind-guest _ _ _ _ refl c.in_ok-guest.ensures.number c.in_ok-guest.ensures.guest _ _ (simp (
      c.first_refusal.ensures,
      c.past_most_money.ensures,
      past_limit c.args.t.now _ c.args.n (rw c.table-t.ensures.same at c.table_sums.ensures),
      c.table-t.ensures.same,
    )))
