-- The hand goes back to its place.
use mathlib.Core.Path.{◌∙◌}
use Rattle.answer.proofs.moved.Laws.{seat_moves}
use Rattle.decisions_spec.specs.Turn.{end_effect}
use Rattle.decisions.proofs.end.ended.Goals as goal

pub returns : goal.returns
unfolding end_effect
returns c =
    seat_moves c.args.t.now _ c.seat_moved.ensures
    ∙ simp (c.with_place.ensures, c.guest_seat-seat.ensures, c.requires.place_is, c.requires.hand_is)
