-- The seats are added up in their order; nine of at most three guests fit.
use Rattle.std.proofs.Common.{◌≡◌, ◌<◌, ◌≤◌, Bool, cond, length, rules, arith}
use Rattle.std.specs.List.{sum_by}
use Rattle.std.proofs.iter.runs.Sources.{sums}
use Rattle.lists.proofs.Chains.{sum_of-sum_by}
use Rattle.lists.proofs.Picks.{cond_most}
use Rattle.lists.proofs.Sums.{sum-most}
use Rattle.table.specs.declared.Seat.{Seat}
use Rattle.table.specs.Seat.{is_staked, guest_at}
use Rattle.ways.specs.Number.{staked_of, staked_guests}
use Rattle.ways.proofs.numbers.staked_guests.Goals as goal

one : (b : Bool) → cond b 1 0 ≤ 1
one b = cond_most b (omega arith) (omega arith)

at_most_three : (s : Seat) → staked_of s ≤ 3
at_most_three s = omega (arith, one (is_staked (guest_at s 0)), one (is_staked (guest_at s 1)), one (is_staked (guest_at s 2)))

pub sum-requires-clause-fits : goal.sum-requires-clause-fits
sum-requires-clause-fits c =
    let seats = c.args.t.seats in
    let full : length seats ≡ 9 = search rules in
    let fits : sum_by staked_of seats < 18446744073709551616 = rw (← sum_of-sum_by) (omega (arith, sum-most staked_of 3 at_most_three seats)) in
    search (rules, sums, fits)

pub returns : goal.returns
unfolding staked_guests
returns c = rw sum_of-sum_by (search (rules, sums))
