-- Options and hand are the empty ones; the rest are constants.
use Rattle.display.proofs.no_table.Goals as goal

pub returns : goal.returns
returns c = rw (c.no_options.ensures, c.empty_hand.ensures)
