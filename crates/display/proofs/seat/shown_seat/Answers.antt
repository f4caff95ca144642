-- The values are those of the guest who was found.
use mathlib.Core.Path.{ap, ◌∙◌}
use Rattle.display.specs.Seat.{seat_values, seat_shown}
use Rattle.display.proofs.seat.shown_seat.Goals as goal

pub returns : goal.returns
unfolding seat_shown
returns c = c.seat_values.ensures ∙ ap (seat_values _) c.guest_or_empty.ensures
