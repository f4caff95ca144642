-- Seat by seat: before each turn the first i seats are known to have their lengths.
use Prim.Native.Nat.{ℕ, ◌<◌}
use lib.ListN.{get_or}
use Rattle.table.specs.Seat.{missing_seat}
use Rattle.table.specs.Shape.{ShapedSeat}
use Rattle.state.proofs.shape.table_shape.Given as goal

abbrev pub invariant-loop-s : goal.invariant-loop-s
invariant-loop-s l = (k : ℕ) → k < l.s-index → ShapedSeat (get_or l.fn.t.seats k missing_seat)
