-- A seat has four places: behind the last there is no hand, and so no card.
use mathlib.Core.Path.{◌≡◌, ◌∙◌}
use Prim.Native.Nat.{suc, ◌≤◌}
use native.Mathlib.Numerals.{add-one}
use native.Mathlib.Omega.{arith}
use lib.ListN.{length, get_or-eq_default}
use Rattle.table.specs.Seat.{missing_place}
use borrow.Author.Rules.{rules}
use Rattle.engine.proofs.scores.score_behind.Goals as goal

pub returns-then-p-ge4 : goal.returns-then-p-ge4
returns-then-p-ge4 c =
    let start = c in
    let s = start.args.s in
    let full : length s.hands.places ≡ 4 = search rules in
    let past : length s.hands.places ≤ suc start.args.p = omega arith in
    rw (get_or-eq_default s.hands.places missing_place past) (c.hand_score.ensures ∙ rw c.empty_hand.ensures)

pub returns : goal.returns
returns c = rw (← add-one) c.seat_score.ensures
