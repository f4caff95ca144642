-- Each turn leaves fewer calls than the one before.
use Rattle.std.proofs.Common.{◌≤◌}
use Rattle.bench_file.proofs.replays.replayed.Given as goal

abbrev pub invariant-loop-r : goal.invariant-loop-r
invariant-loop-r l = l.r.left ≤ l.initial.r.left

abbrev pub decreases-loop-r : goal.decreases-loop-r
decreases-loop-r l = l.r.left
