-- The decisions are gone through in their order: before each turn the place is the number of lists that begin with one of the first i, and what is left of it. It is inside, so that
-- the loop finds the decision.
use mathlib.Core.Path.{◌≡◌}
use Prim.Native.Nat.{◌+◌}
use lib.ListN.{take}
use Rattle.lists.specs.Sum.{sum_of}
use Rattle.ways.specs.Decisions.{decision_kinds}
use Rattle.ways.proofs.Counting.{begun}
use Rattle.ways.proofs.pick.first_decision.Given as goal

abbrev pub invariant-loop-kind : goal.invariant-loop-kind
invariant-loop-kind l = l.place ≡ sum_of (begun l.left l.at l.t) (take l.kind-index decision_kinds) + l.rest
