-- The test is the definition's; below 416 there is a place for the card.
use borrow.Author.Tests.{lt-ltb, le-ltb}
use Rattle.script.specs.Begun.{placed}
use Rattle.script.proofs.orders.with_next.Goals as goal

pub returns-then-at-ge416 : goal.returns-then-at-ge416
unfolding placed
returns-then-at-ge416 c = simp (le-ltb c.args.o.count 416 c.if-at-ge416.true)

pub returns : goal.returns
unfolding placed
returns c = simp (lt-ltb c.args.o.count 416 c.if-at-ge416.false)
