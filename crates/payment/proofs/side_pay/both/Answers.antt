-- The two cards' points, at most ten each.
use mathlib.Core.Path.{refl}
use native.Mathlib.Omega.{arith}
use lib.ListN.{get_or}
use Rattle.lists.specs.Sum.{sum_of}
use Rattle.lists.proofs.Takes.{take-two}
use Rattle.cards.proofs.card.PointsLaws.{points-most}
use Rattle.payment.proofs.side_pay.both.Goals as goal

pub overflow_add-result : goal.overflow_add-result
overflow_add-result c =
    let first = c.args.first.now in
    omega (arith, points-most (get_or first 0 0), points-most (get_or first 1 0), c.points.ensures, c.points-2.ensures)

pub returns : goal.returns
unfolding sum_of
returns c =
    let first = c.args.first.now in
    simp (take-two first 2 0 refl (omega arith)) (omega (arith, c.points.ensures, c.points-2.ensures))
