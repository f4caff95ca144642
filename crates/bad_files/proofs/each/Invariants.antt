-- Each turn leaves fewer bytes.
use Rattle.std.proofs.Common.{length}
use Rattle.bad_files.proofs.each.Given as goal

abbrev pub decreases-loop-left : goal.decreases-loop-left
decreases-loop-left g l = length l.left
