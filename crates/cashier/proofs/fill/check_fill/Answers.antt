-- The conditions are asked in the order of the list.
use Rattle.call.specs.Refusal.{first}
use Rattle.money.proofs.most_money.Laws.{past_limit}
use Rattle.cashier_spec.specs.Fill.{fill_conditions}
use Rattle.cashier.proofs.fill.check_fill.Goals as goal

pub returns : goal.returns
unfolding fill_conditions first
returns c =
    simp (
      c.first_refusal.ensures,
      c.past_most_money.ensures,
      past_limit c.args.t.now _ c.args.n (rw c.table-t.ensures.same at c.table_sums.ensures),
      c.is_dealt.ensures,
      c.table-t.ensures.same,
      c.table-t.ensures.whole,
    )
