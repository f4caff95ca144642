-- `low_sum` adds the points of the cards, of which none has more than ten: twenty cards come to 200 at most.
use Rattle.std.proofs.Common.{rules, ◌≡◌, ◌<◌, ◌*◌, ◌≤◌, length, length-take, arith}
use Rattle.std.specs.List.{sum_by}
use Rattle.std.proofs.iter.runs.Sources.{sums}
use Rattle.lists.proofs.Sums.{sum-most}
use Rattle.lists.proofs.Chains.{sum_of-sum_by}
use Rattle.cards.specs.Points.{points_of}
use Rattle.cards.specs.Hand.{cards_of}
use Rattle.cards.proofs.card.PointsLaws.{points-most}
use Rattle.cards.proofs.total.low_sum.Goals as goal

pub sum-requires-clause-fits : goal.sum-requires-clause-fits
sum-requires-clause-fits c =
    let h = c.args.h in
    let full : length h.cards ≡ 20 = search rules in
    let few : length (cards_of h) ≤ 20 = omega (arith, length-take h.count h.cards) in
    let most : sum_by points_of (cards_of h) ≤ 10 * length (cards_of h) = rw (← sum_of-sum_by) (sum-most points_of 10 points-most (cards_of h)) in
    let fits : sum_by points_of (cards_of h) < 256 = omega arith in
    search (rules, sums, fits)

pub returns : goal.returns
returns c = rw sum_of-sum_by (search (rules, sums))
