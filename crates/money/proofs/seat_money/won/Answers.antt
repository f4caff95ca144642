-- `won` adds hand by hand; four prizes of a stake of 32 bits fit.
use Rattle.std.proofs.Common.{◌≡◌, ◌<◌, length, take, rules, arith}
use Rattle.std.specs.List.{sum_by}
use Rattle.std.proofs.iter.runs.Sources.{sums}
use Rattle.rules.specs.declared.seat_hand.SeatHand.{SeatHand}
use Rattle.rules.specs.SeatHand.{played_of}
use Rattle.payment.specs.Prize.{prize, most_prize}
use Rattle.payment.proofs.Bounds.{prize_most}
use Rattle.money.proofs.seat_money.Hands.{hands-added, added_most}
use Rattle.money.proofs.seat_money.won.Goals as goal

pub sum-requires-clause-fits : goal.sum-requires-clause-fits
sum-requires-clause-fits c =
    let o = c.args.o in
    let stake = c.args.stake in
    let hands = c.args.hands.now in
    let full : length hands.places ≡ 4 = c.places_shape.ensures in
    let most = added_most (prize o stake) hands full (most_prize stake) (prize_most o stake) in
    let fits : sum_by (λ (h : SeatHand). prize o stake (played_of h)) (take hands.many hands.places) < 18446744073709551616 = omega (arith, most) in
    search (rules, sums, fits)

pub returns : goal.returns
returns c =
    let full : length c.args.hands.now.places ≡ 4 = c.places_shape.ensures in
    rw hands-added (search (rules, sums))
