-- `seat_waits` asks the hands in use in their order.
use Rattle.std.proofs.Common.{◌≡◌, ◌∙◌, sym, take, length, rules, tests}
use Rattle.std.proofs.lemmas.Iterator.{YieldsList-from_slice}
use Rattle.std.proofs.lemmas.Iterator.Search.{any_from_yields_List}
use Rattle.lists.proofs.Chains.{any_of-list_any}
use Rattle.lists.proofs.Parts.{any_map}
use Rattle.rules.specs.SeatHand.{played_of, hands_of}
use Rattle.rules.specs.declared.seat_hand.SeatHand.{SeatHand}
use Rattle.rules.specs.Waits.{waits}
use Rattle.rules.proofs.seat_hand.Places.{many_hands}
use Rattle.rules.proofs.turn.seat_waits.Goals as goal

pub returns : goal.returns
returns c =
    let s = c.args.s in
    let hands = take s.many s.places in
    let n = c.used-n.result in
    let full : length s.places ≡ 4 = search rules in
    let many : length (hands_of s) ≡ n = many_hands s full ∙ sym c.used-n.ensures in
    let test = λ (h : SeatHand). waits c.args.o c.args.up n (played_of h) in
    rw (many, any_map, any_of-list_any) (any_from_yields_List test _ _ _ c.any.ensures.ran (YieldsList-from_slice hands cc) (λ x b q k. search (rules, tests)))
