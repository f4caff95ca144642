-- The tests decide: an empty seat, or the guest at the array's seat; a seat that a sound table has is one of the nine.
use mathlib.Core.Path.{sym, ◌∙◌}
use borrow.Author.Tests.{le-leb, lt-leb}
use Rattle.table.proofs.Facts.{seat_of-nine}
use Rattle.display.specs.Seat.{guest_or_empty}
use Rattle.display.proofs.seat.guest_or_empty.Goals as goal

pub returns-then-broken : goal.returns-then-broken
unfolding guest_or_empty
returns-then-broken c = rw (sym c.broken.ensures ∙ c.if-broken.true) c.empty_seat.ensures

pub returns-then-t-seat : goal.returns-then-t-seat
unfolding guest_or_empty
returns-then-t-seat c =
    simp (sym c.broken.ensures ∙ c.if-broken.false, le-leb _ _ c.if-t-seat.true) c.empty_seat-then-t-seat.ensures

pub returns-then-position-ge3 : goal.returns-then-position-ge3
unfolding guest_or_empty
returns-then-position-ge3 c =
    simp (sym c.broken.ensures ∙ c.if-broken.false, lt-leb _ _ c.if-t-seat.false, le-leb _ _ c.if-position-ge3.true) c.empty_seat-then-position-ge3.ensures

pub new-requires-clause-seat : goal.new-requires-clause-seat
new-requires-clause-seat c =
    seat_of-nine _ _ (sym c.broken.ensures ∙ c.if-broken.false) (lt-leb _ _ c.if-t-seat.false)

pub returns : goal.returns
unfolding guest_or_empty
returns c =
    simp (sym c.broken.ensures ∙ c.if-broken.false, lt-leb _ _ c.if-t-seat.false, lt-leb _ _ c.if-position-ge3.false)
    (simp c.new.ensures at c.guest_of.ensures)
