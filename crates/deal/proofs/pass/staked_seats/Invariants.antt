-- `staked_seats` counts seat by seat: before each turn the count is that of the seats before it.
use mathlib.Core.Path.{◌≡◌}
use Prim.Native.Nat.{◌≤◌}
use lib.ListN.{take}
use Rattle.deal_spec.specs.Deal.{staked_seats}
use Rattle.deal.proofs.pass.staked_seats.Given as goal

abbrev pub invariant-loop-s : goal.invariant-loop-s
invariant-loop-s l = (l.n ≡ staked_seats (take l.s-index l.fn.t.seats)) × (l.n ≤ l.s-index)
