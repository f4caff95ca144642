-- `staked_seats` counts seat by seat: before each turn the count is that of the seats before it.
use mathlib.Core.Path.{◌≡◌, ◌∙◌, ap}
use native.Mathlib.Omega.{arith}
use lib.ListN.{length}
use lib.Seq.{take_all}
use Rattle.lists.specs.Sum.{sum_of}
use Rattle.table.specs.Table.{seat_at}
use Rattle.deal_spec.specs.Deal.{staked_seats}
use Rattle.deal.proofs.pass.Next.{one-most, staked-next}
use borrow.Author.Rules.{rules}
use Rattle.deal.proofs.pass.staked_seats.Goals as goal

pub loop-s-init : goal.loop-s-init
unfolding sum_of
loop-s-init c = search rules

pub overflow_add-n : goal.overflow_add-n
overflow_add-n c =
    let full : length c.args.t.seats ≡ 9 = search rules in
    omega (arith, one-most (seat_at c.args.t c.loop-s.s-index))

pub loop-s-preserved : goal.loop-s-preserved
loop-s-preserved c =
    let t = c.args.t in
    let i = c.loop-s.s-index in
    let full : length t.seats ≡ 9 = search rules in
    (omega (arith, staked-next t.seats i (omega arith)), omega (arith, one-most (seat_at t i)))

pub returns : goal.returns
returns c =
    let t = c.args.t in
    let full : length t.seats ≡ 9 = search rules in
    record { same = c.loop-s.invariant.0 ∙ ap staked_seats (take_all c.loop-s.s-index t.seats (omega arith)); few = omega arith }
