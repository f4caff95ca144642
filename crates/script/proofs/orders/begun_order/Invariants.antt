-- `begun_order` goes face by face: before each turn the faces below it stand behind the first cards.
use mathlib.Core.Path.{◌≡◌}
use Prim.Native.Nat.{◌-◌, ◌≤◌}
use Rattle.script.specs.Begun.{placed_faces}
use Rattle.script.proofs.orders.begun_order.Given as goal

abbrev pub invariant-loop-face : goal.invariant-loop-face
invariant-loop-face l = (l.face ≤ 52) × (l.next ≡ placed_faces l.initial.next l.first l.decks l.face)

abbrev pub decreases-loop-face : goal.decreases-loop-face
decreases-loop-face l = 52 - l.face
