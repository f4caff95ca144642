-- Decision by decision: before each turn so many are chosen, and the list goes on as one of the table behind them. Where close is accepted it is chosen, and with eight decisions it is.
use Prim.Native.Nat.{◌-◌}
use Rattle.ways.proofs.Picking.{Picking}
use Rattle.ways.proofs.pick.pick_list.Given as goal

abbrev pub invariant-loop-length : goal.invariant-loop-length
invariant-loop-length l = Picking l.initial.table l.at l.place l.table l.rest l.length l.decisions

abbrev pub decreases-loop-length : goal.decreases-loop-length
decreases-loop-length l = 8 - l.length
