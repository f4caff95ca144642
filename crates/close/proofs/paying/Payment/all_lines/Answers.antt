-- `all_lines` goes seat by seat: before each turn the first seats have their lines, at most 27 each, and so there is room for all.
use mathlib.Core.Path.{◌≡◌, sym, ap}
use native.Mathlib.Omega.{arith}
use lib.ListN.{length, take, get_or, length-append}
use lib.Seq.{take_all}
use Rattle.table.specs.Seat.{missing_seat}
use Rattle.close_spec.specs.PayLines.{seat_lines, all_lines}
use Rattle.close_spec.proofs.PayLines.{seat_lines-next}
use Rattle.close.proofs.pay_lines.Lines.{lines_are, put_none, put_more}
use borrow.Author.Rules.{rules}
use Rattle.close.proofs.paying.Payment.all_lines.Goals as goal

pub loop-i-init : goal.loop-i-init
unfolding all_lines
loop-i-init c = (omega arith, put_none _)

pub overflow_cast-i : goal.overflow_cast-i
overflow_cast-i c = omega arith

pub loop-i-preserved : goal.loop-i-preserved
loop-i-preserved c =
    let a = c.args in
    let i = c.loop-i.i in
    let p = a.self.now in
    let so-far = all_lines p.options p.bank 0 (take i a.seats.now) in
    let more = seat_lines p.options p.bank i (get_or a.seats.now i missing_seat) in
    let nine : length a.seats.now ≡ 9 = search rules in
    let next = seat_lines-next p.options p.bank i a.seats.now missing_seat (omega arith) in (
      omega (arith, ap length next, length-append so-far more, c.seat_lines.ensures.few),
      put_more so-far more _ c.loop-i.invariant.1 c.seat_lines.ensures.put (sym next),
    )

pub returns : goal.returns
returns c =
    let a = c.args in
    let p = a.self.now in
    let nine : length a.seats.now ≡ 9 = search rules in
    let (few, lines) = rw (take_all c.loop-i.i a.seats.now (omega arith)) at c.loop-i.invariant in
    let same_names = sym lines.same_names in
    let same_nets = sym lines.same_nets in
    lines_are (lines.put (omega arith)) (search rules) (search rules)
