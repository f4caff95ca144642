-- `table_sums` adds seat by seat: before each turn the sums are those of the first i seats, each at most one past the limit for each guest.
use mathlib.Core.Path.{◌≡◌, refl, ◌∙◌}
use native.Mathlib.Omega.{arith}
use lib.ListN.{length, get_or}
use Rattle.lists.specs.Sum.{sum_of}
use Rattle.table.specs.Seat.{missing_seat}
use Rattle.money.specs.Sums.{seat_sums}
use Rattle.money.proofs.sums.Pass.{next-seat, three_more, no_guests_fit}
use borrow.Author.Rules.{rules}
use Rattle.money.proofs.sums.table_sums.Goals as goal

pub loop-s-init : goal.loop-s-init
unfolding sum_of
loop-s-init c = (c.no_sums-all.ensures, rw c.no_sums-all.ensures no_guests_fit)

pub loop-s-preserved : goal.loop-s-preserved
loop-s-preserved c =
    let t = c.args.t in
    let i = c.loop-s.s-index in
    let full : length t.seats ≡ 9 = search rules in
    let one = seat_sums t.options (get_or t.seats i missing_seat) in (
      c.with_seat_sums-all.ensures.same ∙ next-seat t.options t.seats i (omega arith) c.loop-s.all one c.loop-s.invariant.0 refl,
      three_more i c.loop-s.all one c.with_seat_sums-all.result c.loop-s.invariant.1 c.with_seat_sums-all.ensures.small c.with_seat_sums-all.ensures.same,
    )
