-- The opening's outcome, over the table that was there.
use mathlib.Core.Path.{◌∙◌}
use Rattle.discgauze.proofs.in_place.discgauze_open.Goals as goal

pub returns : goal.returns
returns c = c.outcome_in-r.ensures ∙ c.opening.ensures c.args.table.now
