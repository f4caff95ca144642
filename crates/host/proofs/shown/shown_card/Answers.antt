-- The values are those of the card that was found.
use mathlib.Core.Path.{ap, ◌∙◌}
use Rattle.host.specs.Shown.{card_values, card_shown}
use Rattle.host.proofs.shown.shown_card.Goals as goal

pub returns : goal.returns
unfolding card_shown
returns c = c.card_values.ensures ∙ ap card_values c.card_or_none.ensures.same
