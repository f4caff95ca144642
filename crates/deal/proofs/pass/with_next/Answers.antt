-- The stored place holds the hand with its card, and the copies have it too.
use Rattle.deal.proofs.pass.with_next.Goals as goal

pub returns : goal.returns
returns c = rw (c.kept-cards.ensures, c.with_card-hand.ensures, c.hand_for.ensures)
