-- Past the nine seats no seat is stored, as `set` stores none.
use mathlib.Core.Path.{◌≡◌}
use Prim.Native.Nat.{◌≤◌}
use native.Mathlib.Omega.{arith}
use lib.ListN.{length}
use lib.Seq.{set_out}
use borrow.Author.Rules.{rules}
use Rattle.answer.proofs.moved.put_seat.Goals as goal

pub returns-else-i-lt9 : goal.returns-else-i-lt9
returns-else-i-lt9 c =
    let seats = c.args.seats.now in
    let full : length seats ≡ 9 = search rules in
    let past : length seats ≤ c.args.seat = omega arith in
    rw set_out
