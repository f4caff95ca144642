-- Each guest pays and wins by itself, and the hand goes back into its place.
use mathlib.Core.Path.{◌≡◌}
use native.Mathlib.Omega.{arith}
use lib.ListN.{length}
use Rattle.table.specs.Seat.{guest_at}
use Rattle.rules.specs.SeatHand.{played_of}
use Rattle.decisions_spec.specs.Card.{card_money}
use Rattle.draw.proofs.card.Laws.{others_are, seat_is}
use borrow.Author.Rules.{rules}
use Rattle.draw.proofs.card.grown_seat.Goals as goal

pub card_money-seated-requires : goal.card_money-seated-requires
unfolding guest_at
card_money-seated-requires c = c.requires 0 (omega arith)

pub card_money-one-requires : goal.card_money-one-requires
unfolding guest_at
card_money-one-requires c = c.requires 1 (omega arith)

pub card_money-other-requires : goal.card_money-other-requires
unfolding guest_at
card_money-other-requires c = c.requires 2 (omega arith)

pub returns : goal.returns
returns c =
    let s = c.args.s in
    let two : length s.others ≡ 2 = search rules in
    let others = others_are (card_money c.args.o c.args.times (played_of c.args.h)) s.others two c.card_money-one.ensures c.card_money-other.ensures in
    seat_is c.args.o c.args.times s c.args.h c.args.p c.with_place.ensures c.card_money-seated.ensures others
