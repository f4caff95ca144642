-- The tests are the definition's, in its order.
use borrow.Author.Tests.{eq-eqb, ne_eqb}
use Rattle.host.proofs.places.holds.Goals as goal

pub returns-then-g-eq1 : goal.returns-then-g-eq1
returns-then-g-eq1 c = simp (eq-eqb _ _ c.if-g-eq1.true)

pub returns-else-g-eq1 : goal.returns-else-g-eq1
returns-else-g-eq1 c = simp (ne_eqb _ _ c.if-g-eq1.false)
