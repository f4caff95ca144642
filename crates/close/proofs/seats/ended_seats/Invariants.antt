-- `ended_seats` goes seat by seat: before each turn the first i seats are as the end of the round leaves them.
use mathlib.Core.Path.{◌≡◌}
use Rattle.close.specs.Aids.Ended.{ended_seat}
use Rattle.table.specs.Aids.WithSeats.{with_seats}
use Rattle.close.proofs.seats.Laws.{stored_seats}
use Rattle.close.proofs.seats.ended_seats.Given as goal

abbrev pub invariant-loop-i : goal.invariant-loop-i
invariant-loop-i l = l.next ≡ with_seats l.fn.t (stored_seats (ended_seat l.fn.ending) l.fn.t l.i)
