-- However the round ends, the seat is the empty one with its guests' new purses.
use native.Mathlib.Omega.{arith}
use Rattle.table.specs.Seat.{guest_at}
use Rattle.close.proofs.seats.Laws.{ended_is}
use Rattle.close.proofs.seats.Ending.seat.Goals as goal

pub purse-requires : goal.purse-requires
unfolding guest_at
purse-requires c = c.requires 0 (omega arith)

pub other_purse-requires : goal.other_purse-requires
unfolding guest_at
other_purse-requires c = c.requires 1 (omega arith)

pub other_purse-requires-2 : goal.other_purse-requires-2
unfolding guest_at
other_purse-requires-2 c = c.requires 2 (omega arith)

pub returns : goal.returns
unfolding guest_at
returns c =
    let other = c in
    let beside = other in
    let seated = beside in
    let a = seated.args in
    rw (c.empty_seat-next.ensures, c.holding-other.ensures, other.other_purse-2.ensures, other.holding-one.ensures, beside.other_purse.ensures, beside.holding-seated.ensures, seated.purse.ensures)
    (ended_is a.self.now a.s)
