-- The test is the definition's.
use borrow.Author.Tests.{eq-eqb, ne_eqb}
use Rattle.close_spec.specs.BankDraw.{bank_burn}
use Rattle.close.proofs.bank_draw.bank_burn.Goals as goal

pub returns-then-o-eq2 : goal.returns-then-o-eq2
unfolding bank_burn
returns-then-o-eq2 c = simp (eq-eqb _ _ c.if-o-eq2.true)

pub returns-else-o-eq2 : goal.returns-else-o-eq2
unfolding bank_burn
returns-else-o-eq2 c = simp (ne_eqb _ _ c.if-o-eq2.false)
