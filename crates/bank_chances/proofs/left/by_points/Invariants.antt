-- `by_points` adds the counts face by face to that of its stand-in: before each turn they count the cards of the first i faces.
use mathlib.Core.Path.{◌≡◌}
use Prim.Native.Nat.{ℕ, ◌-◌, ◌*◌, ◌≤◌}
use lib.ListN.{length, take, get_or}
use Rattle.bank_chances.specs.CardsLeft.{cards_left}
use Rattle.bank_chances.specs.Aids.Ways.{Standing}
use Rattle.bank_chances.proofs.left.by_points.Given as goal

abbrev pub invariant-loop-face : goal.invariant-loop-face
invariant-loop-face l = (l.face ≤ 52) × (length l.counts ≡ 10) × Standing (cards_left (take l.face l.fn.left)) l.counts × ((p : ℕ) → get_or l.counts p 0 ≤ 255 * l.face)

abbrev pub decreases-loop-face : goal.decreases-loop-face
decreases-loop-face l = 52 - l.face
