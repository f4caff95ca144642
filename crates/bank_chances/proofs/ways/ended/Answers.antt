-- All draws of what is left have the bank's ending.
use mathlib.Core.Path.{◌∙◌}
use Rattle.cards.specs.Hand.{cards_of}
use Rattle.bank_chances.proofs.Eight.{ending_below}
use Rattle.bank_chances.proofs.ways.ended.Goals as goal

pub only-requires : goal.only-requires
only-requires c = rw c.ending.ensures (ending_below (cards_of c.args.bank))

pub returns : goal.returns
returns c = c.only.ensures ∙ rw (c.ending.ensures, c.falling.ensures)
