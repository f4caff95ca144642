-- The tests are the definition's, in its order: some hand waits exactly if the seat whose turn it is is one of the nine.
use mathlib.Core.Path.{◌≡◌, sym, ◌∙◌}
use lib.ListN.{length}
use borrow.Author.Tests.{lt-ltb, le-ltb}
use Rattle.state.proofs.turn.Hands.{waits_below}
use Rattle.display.specs.Table.{turn_shown}
use borrow.Author.Rules.{rules}
use Rattle.display.proofs.shown_turn.Goals as goal

pub returns-then-broken : goal.returns-then-broken
unfolding turn_shown
returns-then-broken c = rw (sym c.broken.ensures ∙ c.if-broken.true) c.nobody.ensures

pub returns-then-seat-ge9 : goal.returns-then-seat-ge9
unfolding turn_shown
returns-then-seat-ge9 c =
    let full : length c.args.t.seats ≡ 9 = search rules in
    rw (
      sym c.broken.ensures ∙ c.if-broken.false,
      waits_below c.args.t full _ c.seat_in_turn-seat.ensures ∙ le-ltb _ _ c.if-seat-ge9.true,
    )
    c.nobody-then-seat-ge9.ensures

pub returns : goal.returns
unfolding turn_shown
returns c =
    let full : length c.args.t.seats ≡ 9 = search rules in
    rw (
      sym c.broken.ensures ∙ c.if-broken.false,
      waits_below c.args.t full _ c.seat_in_turn-seat.ensures ∙ lt-ltb _ _ c.if-seat-ge9.false,
      c.decider.ensures,
      c.seat_in_turn-seat.ensures,
      c.place_in_turn.ensures,
    )
