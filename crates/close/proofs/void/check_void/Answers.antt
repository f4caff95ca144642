-- The conditions are asked in the order of the list. The seated guests stake first, so that some seat has a stake exactly if the stakes come to something.
use Rattle.call.specs.Refusal.{first}
use Rattle.table.proofs.Facts.{unbroken}
use Rattle.money.proofs.sums.Capping.{nothing-staked}
use Rattle.close_spec.specs.Void.{void_conditions}
use Rattle.close.proofs.void.check_void.Goals as goal

pub returns : goal.returns
unfolding void_conditions first
returns c =
    let whole = c.table.ensures.whole in
    let seated = nothing-staked c.args.t.now c.table_sums-sums.result (rw c.table.ensures.same at c.table_sums-sums.ensures) c.table.ensures.nine (λ i h. ((unbroken c.args.t.now whole).seats i h).seated_first_lem) in
    simp (c.first_refusal.ensures, whole, seated)
