-- The seated guest is the seat itself, and three times the bound is far from 64 bits.
use native.Mathlib.Omega.{arith}
use Rattle.table.specs.Seat.{guest_at}
use Rattle.close.proofs.paying.Payment.seat_back.Goals as goal

pub returns : goal.returns
unfolding guest_at
returns c =
    let one = c in
    let seated = one in
    record { same = rw (seated.guest_back.ensures.same, one.other_back.ensures.same, c.other_back-2.ensures.same); small = omega arith }
