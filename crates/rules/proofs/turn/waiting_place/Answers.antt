-- `waiting_place` asks the hands in use in their order; where none waits, `first_place` too is their number.
use Rattle.std.proofs.Common.{◌≡◌, ◌∙◌, sym, take, length, rules, tests}
use Rattle.std.specs.Prelude.{position}
use Rattle.std.proofs.lemmas.Iterator.{YieldsList-from_slice}
use Rattle.std.proofs.lemmas.Iterator.Search.{position_from_yields_List}
use lib.ListN.{length-map}
use Rattle.lists.proofs.Chains.{first_place-position, first_place-map}
use Rattle.rules.specs.SeatHand.{played_of, hands_of}
use Rattle.rules.specs.declared.seat_hand.SeatHand.{SeatHand}
use Rattle.rules.specs.Waits.{waits}
use Rattle.rules.proofs.seat_hand.Places.{many_hands}
use Rattle.rules.proofs.turn.waiting_place.Goals as goal

pub returns : goal.returns
returns c =
    let s = c.args.s in
    let hands = take s.many s.places in
    let n = c.used-n.result in
    let full : length s.places ≡ 4 = search rules in
    let many : length (hands_of s) ≡ n = many_hands s full ∙ sym c.used-n.ensures in
    let test = λ (h : SeatHand). waits c.args.o c.args.up n (played_of h) in
    let found : c.position.result ≡ position test hands = position_from_yields_List test _ _ _ c.position.ensures.ran (YieldsList-from_slice hands cc) (λ x b q k. search (rules, tests)) in
    rw (many, first_place-map, first_place-position, ← found, ← length-map hands played_of, many) (search rules)
