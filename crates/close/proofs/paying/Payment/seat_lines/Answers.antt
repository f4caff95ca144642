-- The lines of the three guests, one run behind the other; the seated guest is the seat itself.
use mathlib.Core.Path.{◌≡◌, refl}
use mathlib.Core.List.{◌++◌}
use lib.ListN.{length}
use Rattle.table.specs.Seat.{guest_at}
use Rattle.close_spec.specs.PayLines.{guest_lines, seat_lines}
use Rattle.close.proofs.pay_lines.Few.{seat_few}
use Rattle.close.proofs.pay_lines.Lines.{put_more}
use borrow.Author.Rules.{rules}
use Rattle.close.proofs.paying.Payment.seat_lines.Goals as goal

pub returns : goal.returns
unfolding seat_lines guest_at
returns c =
    let second = c in
    let first = second in
    let a = first.args in
    let lines = guest_lines a.self.now.options a.self.now.bank a.seat in
    let seated = lines 0 (guest_at a.s 0) in
    let one = lines 1 (guest_at a.s 1) in
    let two = put_more seated one _ first.guest_lines.ensures second.guest_lines-2.ensures refl in
    let full : length a.s.hands.places ≡ 4 = search rules in
    record { put = put_more (seated ++ one) (lines 2 (guest_at a.s 2)) _ two c.guest_lines-3.ensures refl; few = seat_few a.self.now.options a.self.now.bank a.seat a.s full }
