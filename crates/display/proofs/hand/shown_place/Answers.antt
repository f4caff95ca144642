-- The places in use are as many as the seat's hands, so the test is the definition's, and a place below them is in the array.
use mathlib.Core.Path.{◌≡◌}
use native.Mathlib.Omega.{arith}
use borrow.Author.Tests.{le-leb, lt-leb}
use lib.ListN.{length}
use Rattle.rules.proofs.seat_hand.Places.{many_hands}
use Rattle.table.specs.Seat.{hands}
use Rattle.display.specs.Hand.{place_shown}
use borrow.Author.Rules.{rules}
use Rattle.display.proofs.hand.shown_place.Goals as goal

pub returns-then-used-place : goal.returns-then-used-place
unfolding place_shown
returns-then-used-place c =
    let s = c.args.s in
    let p = c.args.place in
    let full : length s.hands.places ≡ 4 = search rules in
    simp (le-leb (length (hands s)) p (omega (arith, many_hands s.hands full, c.used.ensures))) c.no_hand.ensures

pub returns : goal.returns
unfolding place_shown
returns c =
    let s = c.args.s in
    let p = c.args.place in
    let full : length s.hands.places ≡ 4 = search rules in
    simp (lt-leb (length (hands s)) p (omega (arith, many_hands s.hands full, c.used.ensures))) c.hand_values.ensures
