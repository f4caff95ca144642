-- The two cards are the shoe's next ones.
use mathlib.Core.Path.{refl}
use native.Mathlib.Omega.{arith}
use Rattle.draw.proofs.split.Effect.{same_effect}
use Rattle.draw.proofs.split.split_moved.Goals as goal

pub split_seat-requires-clause-place : goal.split_seat-requires-clause-place
split_seat-requires-clause-place c = c.requires.turn.four

pub split_seat-requires-clause-pays : goal.split_seat-requires-clause-pays
split_seat-requires-clause-pays c = rw c.guest_seat-s.ensures c.requires.pays

pub overflow_add-result : goal.overflow_add-result
overflow_add-result c = omega (arith, c.requires.two_left)

pub returns-clause-table : goal.returns-clause-table
returns-clause-table c =
    let turn = c.requires.turn in
    same_effect c.args.t.now c.args.turn.guest.seat c.args.turn.place refl c.split_seat.ensures c.card_ahead-first.ensures c.card_ahead-second.ensures turn.place_is turn.hand_is c.guest_seat-s.ensures

pub returns-clause-hand : goal.returns-clause-hand
returns-clause-hand c = c.requires.turn.place_is
