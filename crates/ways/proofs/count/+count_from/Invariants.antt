-- What close says of the table decides. Where a hand waits, the decisions are gone through in their order: before each turn the number is that of the lists which begin with one of
-- the first i. The measure is the number of decisions that are left.
use Rattle.std.proofs.Common.{◌≡◌, ◌-◌, take}
use Rattle.lists.specs.Sum.{sum_of}
use Rattle.ways.specs.Decisions.{decision_kinds}
use Rattle.ways.proofs.Counting.{begun}
use Rattle.ways.proofs.count.+count_from.Given as goal

abbrev pub decreases-count_from : goal.decreases-count_from
decreases-count_from l = l.left

abbrev pub invariant-loop-kind : goal.invariant-loop-kind
invariant-loop-kind l = l.all ≡ sum_of (begun (l.left - 1) l.at l.t) (take l.kind-index decision_kinds)
