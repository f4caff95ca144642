-- A call of one seat that moves nothing else, and the money that it has read of its guest.
use mathlib.Core.Path.{◌≡◌}
use Prim.Native.Nat.{ℕ}
use Rattle.call.specs.declared.At.{At}
use Rattle.table.specs.declared.Money.{Money}
use Rattle.table.specs.declared.Seat.{Seat}
use Rattle.table.specs.declared.Table.{Table}
use Rattle.table.specs.Table.{with_seat, guest_of}
use Rattle.answer.specs.declared.moved.Moved.{Moved}
use Rattle.answer.specs.Moved.{make_moved, moved_table}

pub seat_moves : (t : Table) (j : ℕ) {m : Moved} {s : Seat} → m ≡ make_moved t.tray s t.shoe.drawn 0 → moved_table t j m ≡ with_seat t j s
seat_moves t j is = rw is

-- the table u is t, and the guest g the one that the call names
pub money_read : {m : Money} (t u : Table) (at g : At) → u ≡ t → g ≡ at → m ≡ (guest_of u g.seat g.position).money → m ≡ (guest_of t at.seat at.position).money
money_read t u at g same is read = simp (same, is) at read
