-- The money of all guests before and behind close is within 10^15, so that nothing wraps, and its difference is the sum of the lines' nets and the prizes.
use mathlib.Core.Path.{sym, ◌∙◌, ap, subst}
use Prim.Native.Nat.{◌+◌, ◌-◌}
use native.Mathlib.Omega.{arith}
use Rattle.payment.specs.Pay.{pay}
use Rattle.table.specs.Shape.{Shaped}
use Rattle.money.specs.Sums.{table_sums}
use Rattle.books.specs.Laws.{Whole}
use Rattle.close.proofs.Casts.{casts_fit, casts_net}
use Rattle.ways.proofs.Nets.{EndMoney, end_money}
use Rattle.ways.proofs.sum.end_sum.Goals.{After-table_sums-after}
use Rattle.ways.proofs.sum.end_sum.Goals as goal

money : (c : After-table_sums-after) → EndMoney c.args.t.now c.table_sums-before.result c.table_sums-after.result
money c =
    let whole : Whole c.args.t.now = record { shaped = subst Shaped c.table-table.ensures.same c.table_shape.ensures; sound = c.table-table.ensures.whole } in
    end_money c.args.t.now whole (sym c.in_ok-close.ensures.number) c.close.new.t _ _ c.in_ok-close.ensures.after
    (c.table_sums-before.ensures ∙ ap table_sums c.table-table.ensures.same) (c.table_sums-after.ensures ∙ ap table_sums c.table.ensures.same)

pub overflow_add-had : goal.overflow_add-had
overflow_add-had c = omega (arith, (money (goal.at.overflow_add-had c).After-table_sums-after).small-before)

pub overflow_sub-had : goal.overflow_sub-had
overflow_sub-had c = (money (goal.at.overflow_sub-had c).After-table_sums-after).few_prizes

pub overflow_cast-result : goal.overflow_cast-result
overflow_cast-result c = record { sfits = omega (arith, (money (goal.at.overflow_cast-result c).After-table_sums-after).small-after) }

pub overflow_cast-result-2 : goal.overflow_cast-result-2
overflow_cast-result-2 c = record { sfits = omega (arith, (money (goal.at.overflow_cast-result-2 c).After-table_sums-after).small-before) }

pub overflow_sub-result : goal.overflow_sub-result
overflow_sub-result c =
    let before = c.table_sums-before.result in
    casts_fit c.table_sums-after.result.purses (before.purses + before.laid - before.prizes) (money (goal.at.overflow_sub-result c).After-table_sums-after).small-after (omega (arith, (money (goal.at.overflow_sub-result c).After-table_sums-after).small-before))

pub returns-clause-sum : goal.returns-clause-sum
returns-clause-sum c =
    let before = c.table_sums-before.result in
    casts_net (pay (before.purses + before.laid - before.prizes) c.table_sums-after.result.purses) (omega (arith, (money (goal.at.returns-clause-sum c).After-table_sums-after).small-before), (money (goal.at.returns-clause-sum c).After-table_sums-after).small-after) ∙ sym (money (goal.at.returns-clause-sum c).After-table_sums-after).comes_to
