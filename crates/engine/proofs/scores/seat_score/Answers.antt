-- Past the four places the seat has no hand, and a hand with no card has no cards; else the hand of the place is scored.
use mathlib.Core.Path.{◌≡◌, ◌∙◌}
use Prim.Native.Nat.{◌≤◌}
use native.Mathlib.Omega.{arith}
use lib.ListN.{length, get_or-eq_default}
use Rattle.table.specs.Seat.{missing_place}
use borrow.Author.Rules.{rules}
use Rattle.engine.proofs.scores.seat_score.Goals as goal

pub returns-then-place-ge4 : goal.returns-then-place-ge4
returns-then-place-ge4 c =
    let start = c in
    let s = start.args.s in
    let full : length s.hands.places ≡ 4 = search rules in
    let past : length s.hands.places ≤ start.args.place = omega arith in
    rw (get_or-eq_default s.hands.places missing_place past) (c.hand_score.ensures ∙ rw c.empty_hand.ensures)
