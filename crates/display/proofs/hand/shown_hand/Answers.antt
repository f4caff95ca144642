-- The place is one of the guest who was found.
use mathlib.Core.Path.{ap, ◌∙◌}
use Rattle.table.specs.declared.Seat.{Seat}
use Rattle.display.specs.Hand.{place_shown, hand_shown}
use Rattle.display.proofs.hand.shown_hand.Goals as goal

pub returns : goal.returns
unfolding hand_shown
returns c = c.shown_place.ensures ∙ ap (λ (s : Seat). place_shown s c.args.place) c.guest_or_empty.ensures
