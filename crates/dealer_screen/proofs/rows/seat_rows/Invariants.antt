-- Place by place: before each turn the rows are those with the hands of the first places that are wanted, so at most as many more.
use mathlib.Core.Path.{◌≡◌}
use Prim.Native.Nat.{◌+◌, ◌≤◌}
use Rattle.dealer_screen.specs.Aids.Held.{wanted}
use Rattle.dealer_screen.proofs.Gather.{places_to}
use Rattle.dealer_screen.proofs.rows.seat_rows.Given as goal

abbrev pub invariant-loop-place : goal.invariant-loop-place
invariant-loop-place l = (l.next ≡ places_to (wanted l.waiting l.o l.card l.many) l.seat l.h-items l.initial.next l.place) × (l.next.count ≤ l.initial.next.count + l.place)
