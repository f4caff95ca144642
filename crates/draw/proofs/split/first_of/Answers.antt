-- The seat's number of hands says whether this is its first split.
use borrow.Author.Tests.{eq-eqb, ne_eqb}
use Rattle.draw.proofs.split.first_of.Goals as goal

pub returns-then-hands-eq1 : goal.returns-then-hands-eq1
returns-then-hands-eq1 c = simp (eq-eqb _ 1 c.if-hands-eq1.true)

pub returns-else-hands-eq1 : goal.returns-else-hands-eq1
returns-else-hands-eq1 c = simp (ne_eqb _ 1 c.if-hands-eq1.false)
