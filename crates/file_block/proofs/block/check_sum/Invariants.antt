-- `check_sum` adds byte by byte: before each turn it has the sum of the first i bytes, each term at most 255 × 508.
use mathlib.Core.Path.{◌≡◌}
use Prim.Native.Nat.{◌*◌, ◌≤◌}
use lib.ListN.{take}
use Rattle.file_spec.specs.Block.{weighed}
use Rattle.file_block.proofs.block.check_sum.Given as goal

abbrev pub invariant-loop-i : goal.invariant-loop-i
invariant-loop-i l = (l.sum ≡ weighed 0 (take l.i l.block)) × (l.sum ≤ 129540 * l.i)
