-- The flag is the definition's.
use Rattle.deal.proofs.pass.hand_for.Goals as goal

pub returns : goal.returns
returns c = rw c.if-first.false
