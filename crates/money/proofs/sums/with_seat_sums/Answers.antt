-- The seated guest is the seat itself, and the three together are the seat's sums; where nobody bets beside, the two others add nothing.
use mathlib.Core.Path.{sym, ◌∙◌}
use Rattle.table.specs.Seat.{guest_at}
use Rattle.money.proofs.sums.Pass.{seat-added, seated-added}
use Rattle.money.proofs.sums.with_seat_sums.Goals as goal

pub returns-then-nobody_beside : goal.returns-then-nobody_beside
returns-then-nobody_beside c =
    let seated = c.with_guest_sums-seated in
    let both = seated-added c.args.o c.args.s.now c.args.all seated.result (sym c.nobody_beside.ensures ∙ c.if-nobody_beside.true) (seated.ensures.same, seated.ensures.small) in
    record { same = both.0; small = both.1 }

pub returns : goal.returns
unfolding guest_at
returns c =
    let one = c.with_guest_sums-seated in
    let two = c.with_other_sums-two in
    let both = seat-added c.args.o c.args.s.now c.args.all one.result two.result c.with_other_sums.result (one.ensures.same, one.ensures.small) (two.ensures.same, two.ensures.small) (c.with_other_sums.ensures.same, c.with_other_sums.ensures.small) in
    record { same = both.0; small = both.1 }
