-- `counted` counts the cards by byte and takes the counters of the 52 faces, one after the other.
use mathlib.Core.Path.{◌≡◌}
use mathlib.Core.List.{◌++◌}
use Prim.Native.Nat.{◌-◌, ◌≤◌}
use lib.ListN.{length, take}
use Rattle.faces_left.specs.FacesLeft.{counts_below}
use Rattle.faces_left.proofs.counts.counted.Given as goal

abbrev pub invariant-loop-face : goal.invariant-loop-face
invariant-loop-face l = (l.face ≤ 52) × (length l.counts ≡ 52) × (take l.face l.counts ≡ counts_below (l.first ++ l.second) l.face)

abbrev pub decreases-loop-face : goal.decreases-loop-face
decreases-loop-face l = 52 - l.face
