-- `wagers` adds hand by hand; four wagers of at most twice a stake of 32 bits fit.
use Rattle.std.proofs.Common.{◌≡◌, ◌<◌, ◌*◌, length, take, rules, arith}
use Rattle.std.specs.List.{sum_by}
use Rattle.std.proofs.iter.runs.Sources.{sums}
use Rattle.rules.specs.declared.seat_hand.SeatHand.{SeatHand}
use Rattle.rules.specs.SeatHand.{played_of}
use Rattle.payment.specs.Wager.{wager}
use Rattle.payment.proofs.Bounds.{wager_bounds}
use Rattle.money.proofs.seat_money.Hands.{hands-added, added_most}
use Rattle.money.proofs.seat_money.wagers.Goals as goal

pub sum-requires-clause-fits : goal.sum-requires-clause-fits
sum-requires-clause-fits c =
    let hands = c.args.hands.now in
    let stake = c.args.stake in
    let full : length hands.places ≡ 4 = c.places_shape.ensures in
    let most = added_most (wager stake) hands full (2 * stake) (λ h. (wager_bounds stake h).1) in
    let fits : sum_by (λ (h : SeatHand). wager stake (played_of h)) (take hands.many hands.places) < 18446744073709551616 = omega (arith, most) in
    search (rules, sums, fits)

pub returns : goal.returns
returns c =
    let full : length c.args.hands.now.places ≡ 4 = c.places_shape.ensures in
    rw hands-added (search (rules, sums))
