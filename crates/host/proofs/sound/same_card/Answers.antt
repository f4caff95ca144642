-- The tests are the definition's, in its order.
use borrow.Author.Tests.{eq-eqb, ne_eqb}
use Rattle.host.proofs.sound.same_card.Goals as goal

pub returns-then-f-eq1 : goal.returns-then-f-eq1
returns-then-f-eq1 c = simp (eq-eqb _ _ c.if-f-eq1.true, c.holds.ensures)

pub returns-else-f-eq1 : goal.returns-else-f-eq1
returns-else-f-eq1 c = simp (ne_eqb _ _ c.if-f-eq1.false)
