-- `seats_back` adds seat by seat: before each turn the sum is that of the seats before it, each with the bound of `seat_back`.
use mathlib.Core.Path.{◌≡◌, ◌∙◌, ap}
use native.Mathlib.Numerals.{add-one}
use native.Mathlib.Omega.{arith}
use lib.ListN.{length}
use lib.Seq.{take_all}
use Rattle.lists.specs.Sum.{sum_of}
use Rattle.lists.proofs.Sums.{sum-take}
use Rattle.table.specs.Seat.{missing_seat, over_guests}
use Rattle.close_spec.specs.Close.{guest_back}
use borrow.Author.Rules.{rules}
use Rattle.close.proofs.paying.Payment.seats_back.Goals as goal

pub loop-s-init : goal.loop-s-init
unfolding sum_of
loop-s-init c = search rules

pub loop-s-preserved : goal.loop-s-preserved
loop-s-preserved c =
    let seats = c.args.seats.now in
    let full : length seats ≡ 9 = search rules in
    (rw (add-one, sum-take (over_guests (guest_back c.args.self.now.options c.args.self.now.bank)) seats c.loop-s.s-index missing_seat (omega arith)) (omega arith), omega arith)

pub returns : goal.returns
returns c =
    let seats = c.args.seats.now in
    let full : length seats ≡ 9 = search rules in
    c.loop-s.invariant.0 ∙ ap (sum_of (over_guests (guest_back c.args.self.now.options c.args.self.now.bank))) (take_all c.loop-s.s-index seats (omega arith))
