-- The call's outcome is put in the place of the table, whatever stood there.
use mathlib.Core.Path.{◌∙◌, ap}
use Rattle.answer.specs.Reply.{plain_reply}
use Rattle.engine.proofs.ShownDeal.{elsewhere}
use Rattle.engine.proofs.filled.Goals as goal

pub returns : goal.returns
returns c = c.changed.ensures ∙ ap plain_reply (elsewhere _ _ _ _ _ c.fill.ensures)
