-- The conditions are asked in the order of the list.
use Rattle.call.specs.Refusal.{first}
use Rattle.cashier_spec.specs.Load.{load_conditions}
use Rattle.cashier.proofs.load.check_load.Goals as goal

pub returns : goal.returns
unfolding load_conditions first
returns c = simp (c.first_refusal.ensures, c.valid_order.ensures, c.is_dealt.ensures, c.table-t.ensures.same, c.table-t.ensures.whole)
