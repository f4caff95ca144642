-- In the seat whose turn it is, the first waiting hand; past the seats there are no hands, and the first place is 0.
use mathlib.Core.Path.{◌≡◌, sym, ap}
use mathlib.Core.List.{[]}
use native.Mathlib.Omega.{arith}
use lib.ListN.{length, get_or, get_or-eq_default}
use borrow.Author.Rules.{rules}
use Rattle.lists.specs.Tests.{first_place}
use Rattle.rules.specs.Turn.{waiting_place}
use Rattle.table.specs.Table.{seats_hands, up}
use Rattle.state.proofs.turn.Hands.{nine_seats_lem}
use Rattle.state.proofs.turn.place_in_turn.Goals as goal

pub returns-then-i-ge9 : goal.returns-then-i-ge9
unfolding first_place
returns-then-i-ge9 c =
    let t = c.args.t in
    let full : length t.seats ≡ 9 = search rules in
    let none : get_or (seats_hands t) c.seat_in_turn-i.result [] ≡ [] = get_or-eq_default (seats_hands t) [] (omega (arith, nine_seats_lem t full)) in
    sym (ap (waiting_place t.options (up t)) (rw c.seat_in_turn-i.ensures at none))
