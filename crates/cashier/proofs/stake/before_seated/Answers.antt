-- The tests are the definition's, in its order.
use borrow.Author.Tests.{eq-eqb, ne_eqb}
use Rattle.cashier.proofs.stake.before_seated.Goals as goal

pub returns-then-position-ne0 : goal.returns-then-position-ne0
returns-then-position-ne0 c = simp (ne_eqb _ _ c.if-position-ne0.true)

pub returns-else-position-ne0 : goal.returns-else-position-ne0
returns-else-position-ne0 c = simp (eq-eqb _ _ c.if-position-ne0.false)
