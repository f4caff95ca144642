-- The test is the definition's.
use borrow.Author.Tests.{lt-ltb, le-ltb}
use Rattle.deal.proofs.pass.taken.Goals as goal

pub returns-then-money-gt0 : goal.returns-then-money-gt0
returns-then-money-gt0 c = rw (lt-ltb _ _ c.if-money-gt0.true)

pub returns-else-money-gt0 : goal.returns-else-money-gt0
returns-else-money-gt0 c = rw (le-ltb _ _ c.if-money-gt0.false)
