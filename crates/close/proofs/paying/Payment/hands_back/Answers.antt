-- `hands_back` adds hand by hand; for each hand at most four times a stake of 32 bits goes back.
use Rattle.std.proofs.Common.{◌≡◌, ◌<◌, ℕ, ◌*◌, length, take, rules, arith}
use Rattle.std.specs.List.{sum_by}
use Rattle.std.proofs.iter.runs.Sources.{sums}
use Rattle.options.specs.declared.Options.{Options}
use Rattle.rules.specs.declared.seat_hand.SeatHand.{SeatHand}
use Rattle.rules.specs.SeatHand.{Played, played_of}
use Rattle.payment.specs.declared.bank.Score.{Score}
use Rattle.payment.specs.HandPay.{hand_pay}
use Rattle.money.proofs.seat_money.Hands.{hands-added, added_most}
use Rattle.close.proofs.paying.Back.{hand-most}
use Rattle.close.proofs.paying.Payment.hands_back.Goals as goal

-- what goes back for a hand
abbrev back : Options → Score → ℕ → Played → ℕ
back o bank stake h = (hand_pay o bank stake h).back

pub sum-requires-clause-fits : goal.sum-requires-clause-fits
sum-requires-clause-fits c =
    let a = c.args in
    let full : length a.hands.places ≡ 4 = search rules in
    let most = added_most (back a.self.now.options a.self.now.bank a.stake) a.hands full (4 * a.stake) (hand-most a.self.now.options a.self.now.bank a.stake) in
    let fits : sum_by (λ (h : SeatHand). back a.self.now.options a.self.now.bank a.stake (played_of h)) (take a.hands.many a.hands.places) < 18446744073709551616 = omega (arith, most) in
    search (rules, sums, fits)

pub returns : goal.returns
returns c =
    let a = c.args in
    let full : length a.hands.places ≡ 4 = search rules in
    let most = added_most (back a.self.now.options a.self.now.bank a.stake) a.hands full (4 * a.stake) (hand-most a.self.now.options a.self.now.bank a.stake) in
    let sum : c.sum.result ≡ sum_by (λ (h : SeatHand). back a.self.now.options a.self.now.bank a.stake (played_of h)) (take a.hands.many a.hands.places) = search (rules, sums) in
    record { same = rw hands-added sum; small = omega (arith, sum, most) }
