-- The empty hand is its definition; the rest are constants.
use Rattle.display.proofs.hand.no_hand.Goals as goal

pub returns : goal.returns
returns c = rw c.empty_hand.ensures
