-- What is moved from what was read; an accepted draw or double has the money, and the tray the prizes.
use mathlib.Core.Path.{refl, ap}
use native.Mathlib.Omega.{arith}
use Rattle.rules.specs.SeatHand.{played_of}
use Rattle.draw.specs.Aids.Drawable.{one_prize_each}
use Rattle.draw.proofs.card.Laws.{all_most, next_is}
use Rattle.draw.proofs.card.with_next_card.Goals as goal

pub all_won-won-requires : goal.all_won-won-requires
all_won-won-requires c = rw c.guest_seat-s.ensures (omega (arith, c.requires.tray_has, c.requires.tray_fits))

pub grown_seat-requires : goal.grown_seat-requires
grown_seat-requires c = rw c.guest_seat-s.ensures c.requires.guests

pub overflow_sub-result : goal.overflow_sub-result
overflow_sub-result c =
    omega (arith, c.requires.tray_has, c.all_won-won.ensures, ap one_prize_each c.guest_seat-s.ensures, all_most c.args.t.now.options (played_of c.grown-h.result) c.guest_seat-s.result.now)

pub overflow_add-result : goal.overflow_add-result
overflow_add-result c = omega (arith, c.requires.card_left)

pub returns-clause-table : goal.returns-clause-table
returns-clause-table c =
    let turn = c.requires.turn in
    next_is c.args.t.now c.args.turn.guest.seat c.args.times c.args.code c.args.turn.place refl c.grown_seat.ensures c.all_won-won.ensures c.grown-h.ensures c.card_ahead-next.ensures
    turn.place_is turn.hand_is c.guest_seat-s.ensures

pub returns-clause-hand : goal.returns-clause-hand
returns-clause-hand c = c.requires.turn.place_is
