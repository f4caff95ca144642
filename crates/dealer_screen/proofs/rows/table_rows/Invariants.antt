-- Seat by seat: before each turn the rows are those with the wanted hands of the first i seats, at most four for each.
use mathlib.Core.Path.{◌≡◌}
use Prim.Native.Nat.{◌+◌, ◌*◌, ◌≤◌}
use Rattle.dealer_screen.proofs.Gather.{seats_to}
use Rattle.dealer_screen.proofs.rows.table_rows.Given as goal

abbrev pub invariant-loop-i : goal.invariant-loop-i
invariant-loop-i l = (l.next ≡ seats_to l.waiting l.fn.t.options l.card l.fn.t.seats l.initial.next l.i) × (l.next.count ≤ l.initial.next.count + 4 * l.i)
