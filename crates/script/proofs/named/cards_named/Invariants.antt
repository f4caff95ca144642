-- `cards_named` goes over its 64 places: before each turn the first i of them have their cards.
use mathlib.Core.Path.{◌≡◌}
use Prim.Native.Nat.{◌≤◌, ◌-◌}
use lib.ListN.{length, take}
use Rattle.script.specs.Named.{cards_below}
use Rattle.script.proofs.named.cards_named.Given as goal

abbrev pub invariant-loop-i : goal.invariant-loop-i
invariant-loop-i l = (l.i ≤ 64) × (length l.cards ≡ 64) × (take l.i l.cards ≡ cards_below l.letters l.i)

abbrev pub decreases-loop-i : goal.decreases-loop-i
decreases-loop-i l = 64 - l.i
