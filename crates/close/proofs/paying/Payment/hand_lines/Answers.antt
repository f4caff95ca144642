-- `hand_lines` goes hand by hand: before each turn the first hands have their lines, one each.
use mathlib.Core.Path.{◌≡◌, sym, ◌∙◌, ap}
use mathlib.Core.List.{List, [], ◌∷◌, map}
use Prim.Native.Nat.{ℕ, ◌<◌, min}
use native.Mathlib.Omega.{arith}
use lib.ListN.{length, take, get_or, get_or-map, length-take}
use lib.Seq.{take_all}
use Rattle.rules.specs.declared.seat_hand.SeatHand.{SeatHand}
use Rattle.rules.specs.declared.seat_hand.SeatHands.{SeatHands}
use Rattle.rules.specs.SeatHand.{played_of, hands_of}
use Rattle.rules.proofs.seat_hand.Places.{many_hands}
use Rattle.payment.specs.HandPay.{hand_pay}
use Rattle.payment.specs.Pays.{due, hand_kind, hand_pays}
use Rattle.table.specs.Seat.{missing_place}
use Rattle.close_spec.specs.PayLines.{line_of}
use Rattle.close_spec.proofs.PayLines.{hand_lines-next}
use Rattle.close.proofs.pay_lines.Pays.{hand_pay-small}
use Rattle.close.proofs.pay_lines.Lines.{put_none, put_more}
use borrow.Author.Rules.{rules}
use Rattle.close.proofs.paying.Payment.hand_lines.Goals as goal

-- the hands in use, at most four, are the places in use
few : (s : SeatHands) (in_use : List SeatHand) → length s.places ≡ 4 → in_use ≡ take s.many s.places → length in_use ≡ min s.many 4
few s in_use full same = ap length same ∙ length-take s.many s.places ∙ ap (min s.many) full

here : (s : SeatHands) (in_use : List SeatHand) (i : ℕ) → in_use ≡ take s.many s.places
    → played_of (get_or in_use i missing_place) ≡ get_or (hands_of s) i (played_of missing_place)
here s in_use i same = rw same (sym (get_or-map played_of (take s.many s.places) i missing_place))

pub loop-place-init : goal.loop-place-init
unfolding hand_pays
loop-place-init c = put_none c.args.lines.now

pub overflow_cast-place : goal.overflow_cast-place
overflow_cast-place c =
    let full : length c.args.hands.places ≡ 4 = search rules in
    omega (arith, few c.args.hands c.in_use-in_use.result.now full c.in_use-in_use.ensures)

pub put-requires : goal.put-requires
put-requires c =
    let a = c.args in
    let pay = c.hand_pay-pay in
    hand_pay-small a.self.now.bank a.stake (omega arith) pay.result a.self.now.options (played_of (get_or c.in_use-in_use.result.now c.loop-place.place missing_place)) pay.ensures

pub loop-place-preserved : goal.loop-place-preserved
loop-place-preserved c =
    let a = c.args in
    let i = c.loop-place.place in
    let pay = c.hand_pay-pay in
    let full : length a.hands.places ≡ 4 = search rules in
    let many = few a.hands c.in_use-in_use.result.now full c.in_use-in_use.ensures in
    let within : i < length (hands_of a.hands) = omega (arith, many, many_hands a.hands full) in
    let as_line = line_of a.guest.seat a.guest.position in
    let paid = hand_pay a.self.now.options a.self.now.bank a.stake in
    let same : pay.result ≡ paid (get_or (hands_of a.hands) i (played_of missing_place)) = pay.ensures ∙ ap paid (here a.hands c.in_use-in_use.result.now i c.in_use-in_use.ensures) in
    put_more (map as_line (hand_pays a.self.now.options a.self.now.bank a.stake 0 (take i (hands_of a.hands)))) (as_line (due hand_kind i pay.result) ∷ []) _ c.loop-place.invariant c.put.ensures
    (rw same (sym (hand_lines-next a.self.now.options a.self.now.bank a.stake a.guest.seat a.guest.position i (hands_of a.hands) (played_of missing_place) within)))

pub returns : goal.returns
returns c =
    let a = c.args in
    let full : length a.hands.places ≡ 4 = search rules in
    let many = few a.hands c.in_use-in_use.result.now full c.in_use-in_use.ensures in
    rw (take_all c.loop-place.place (hands_of a.hands) (omega (arith, many, many_hands a.hands full))) at c.loop-place.invariant
