-- The conditions are asked in the order of the list.
use Rattle.call.specs.Refusal.{first}
use Rattle.cashier_spec.specs.Credit.{credit_conditions}
use Rattle.cashier.proofs.credit.check_credit.Goals as goal

pub returns : goal.returns
unfolding credit_conditions first
returns c = simp (c.first_refusal.ensures, c.is_dealt.ensures, c.table-t.ensures.same, c.table-t.ensures.whole)
