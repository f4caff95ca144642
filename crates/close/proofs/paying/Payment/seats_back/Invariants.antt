-- `seats_back` adds seat by seat: before each turn the sum is that of the seats before it, each with the bound of `seat_back`.
use mathlib.Core.Path.{◌≡◌}
use Prim.Native.Nat.{◌*◌, ◌≤◌}
use lib.ListN.{take}
use Rattle.lists.specs.Sum.{sum_of}
use Rattle.table.specs.Seat.{over_guests}
use Rattle.close_spec.specs.Close.{guest_back}
use Rattle.close.proofs.paying.Payment.seats_back.Given as goal

abbrev pub invariant-loop-s : goal.invariant-loop-s
invariant-loop-s l = (l.all ≡ sum_of (over_guests (guest_back l.fn.self.options l.fn.self.bank)) (take l.s-index l.fn.seats)) × (l.all ≤ 422457278201856 * l.s-index)
