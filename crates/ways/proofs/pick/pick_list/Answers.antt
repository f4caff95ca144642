-- Decision by decision: before each turn so many are chosen, and the list goes on as one of the table behind them. Where close is accepted it is chosen, and with eight decisions it is.
use mathlib.Core.Path.{◌≡◌, ◌∙◌, ap, subst}
use mathlib.Core.Bool.{not}
use Prim.Native.Nat.{ℕ, ◌-◌, ◌<◌}
use native.Mathlib.Omega.{arith}
use lib.ListN.{length}
use Rattle.ways.specs.Ways.{ways_from}
use Rattle.ways.proofs.Picking.{one_picked, all_picked, some_waits_lem, spent_ends}
use Rattle.ways.proofs.Turns.{ok_number, err_number}
use Rattle.ways.proofs.pick.pick_list.Goals as goal
use Rattle.ways.proofs.pick.pick_list.Goals.{then-loop-length-test+else-is_err, else-loop-length-test}

pub first_decision-n-requires-clause-waits : goal.first_decision-n-requires-clause-waits
first_decision-n-requires-clause-waits c =
    let n = c.loop-length.length in
    some_waits_lem (8 - n) c.args.at c.loop-length.table (omega (arith, c.loop-length.invariant.inside)) (err_number c.check_close.result c.check_close.ensures (c.is_err.ensures.negation ∙ ap not c.if-is_err.true))

pub loop-length-preserved : goal.loop-length-preserved
loop-length-preserved c =
    let a = c.args in
    one_picked a.t.now a.at a.place c.loop-length.table c.loop-length.rest c.loop-length.length c.loop-length.decisions c.loop-length.invariant (omega arith) c.first_decision-n.result
    c.first_decision-n.ensures

pub returns : goal.returns
returns c =
    let a = c.args in
    let u = c.loop-length.table in
    let picked = all_picked a.t.now a.at a.place u c.loop-length.rest c.loop-length.length c.loop-length.decisions c.loop-length.invariant in
    elim c.loop-length-test.branch [
      | then-loop-length-test+else-is_err w ↦ picked (ok_number w.check_close.result w.check_close.ensures (w.is_err.ensures.negation ∙ ap not w.if-is_err.false))
      | else-loop-length-test w ↦
          let done : 8 - c.loop-length.length ≡ 0 = omega (arith, c.loop-length.invariant.few, w.loop-length-test.false) in
          let inside = subst (λ (k : ℕ). c.loop-length.rest < length (ways_from k a.at u)) done c.loop-length.invariant.inside in
          picked (spent_ends a.at u (omega (arith, inside)))
    ]
