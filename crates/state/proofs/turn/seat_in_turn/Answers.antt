-- `seat_in_turn` asks the nine seats in their order.
use Rattle.std.proofs.Common.{◌≡◌, length, rules, tests}
use Rattle.std.specs.Prelude.{position}
use Rattle.std.proofs.lemmas.Iterator.{YieldsList-from_slice}
use Rattle.std.proofs.lemmas.Iterator.Search.{position_from_yields_List}
use Rattle.lists.proofs.Chains.{first_place-position, first_place-map}
use Rattle.rules.specs.Turn.{seat_waits}
use Rattle.table.specs.declared.Seat.{Seat}
use Rattle.table.specs.Seat.{hands}
use Rattle.state.proofs.turn.seat_in_turn.Goals as goal

pub returns : goal.returns
returns c =
    let t = c.args.t.now in
    let full : length t.seats ≡ 9 = c.seats_shape.ensures in
    let test = λ (s : Seat). seat_waits t.options c.up-card.result (hands s) in
    let found : c.position.result ≡ position test t.seats = position_from_yields_List test _ _ _ c.position.ensures.ran (YieldsList-from_slice t.seats cc) (λ x b q k. search (rules, tests)) in
    rw (← c.up-card.ensures, first_place-map, first_place-position, ← found, full) (search rules)
