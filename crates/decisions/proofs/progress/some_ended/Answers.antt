-- The hands in use are asked in their order.
use Rattle.std.proofs.Common.{take, rules, tests}
use Rattle.std.proofs.lemmas.Iterator.{YieldsList-from_slice}
use Rattle.std.proofs.lemmas.Iterator.Search.{any_from_yields_List}
use lib.Dec.{ltb}
use Rattle.lists.proofs.Chains.{any_of-list_any}
use Rattle.lists.proofs.Parts.{any_map}
use Rattle.rules.specs.declared.seat_hand.SeatHand.{SeatHand}
use Rattle.decisions.proofs.progress.some_ended.Goals as goal

pub returns : goal.returns
returns c =
    let s = c.args.s in
    let hands = take s.many s.places in
    let test = λ (h : SeatHand). ltb 0 h.ended in
    rw (any_map, any_of-list_any) (any_from_yields_List test _ _ _ c.any.ensures.ran (YieldsList-from_slice hands cc) (λ x b q k. search (rules, tests)))
