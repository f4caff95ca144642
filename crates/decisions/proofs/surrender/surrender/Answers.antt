-- Why it is refused, or the effect: the seat's first hand is ended.
use mathlib.Core.Path.{◌∙◌}
use Rattle.answer.proofs.moved.Laws.{seat_moves}
use Rattle.answer.proofs.outcome.Laws.{refused-seat, accepted}
use Rattle.decisions_spec.specs.Surrender.{surrender_effect}
use Rattle.decisions.proofs.surrender.surrender.Goals as goal

pub returns-in_err-guest : goal.returns-in_err-guest
returns-in_err-guest c = refused-seat _ _ _ _ _ _ c.from_residual.ensures.1 c.in_err-guest.ensures.number

pub returns : goal.returns
unfolding surrender_effect
returns c =
    accepted _ _ _ c.in_ok-guest.ensures.number
    (seat_moves c.args.t.now _ (rw c.table-t.ensures.same at c.seat_moved.ensures) ∙ simp (c.surrendered_seat.ensures, c.guest_seat.ensures, c.table-t.ensures.same, c.in_ok-guest.ensures.guest))
