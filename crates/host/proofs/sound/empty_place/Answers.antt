-- The tests are the definition's, in its order.
use borrow.Author.Tests.{eq-eqb, ne_eqb}
use Rattle.host.proofs.sound.empty_place.Goals as goal

pub returns-then-tally-eq0-2 : goal.returns-then-tally-eq0-2
returns-then-tally-eq0-2 c = simp (eq-eqb _ _ c.if-g-eq0.true, eq-eqb _ _ c.if-g-eq0-2.true, eq-eqb _ _ c.if-tally-eq0.true, eq-eqb _ _ c.if-tally-eq0-2.true)

pub returns-else-tally-eq0-2 : goal.returns-else-tally-eq0-2
returns-else-tally-eq0-2 c = simp (eq-eqb _ _ c.if-g-eq0.true, eq-eqb _ _ c.if-g-eq0-2.true, eq-eqb _ _ c.if-tally-eq0.true, ne_eqb _ _ c.if-tally-eq0-2.false)

pub returns-else-tally-eq0 : goal.returns-else-tally-eq0
returns-else-tally-eq0 c = simp (eq-eqb _ _ c.if-g-eq0.true, eq-eqb _ _ c.if-g-eq0-2.true, ne_eqb _ _ c.if-tally-eq0.false)

pub returns-else-g-eq0-2 : goal.returns-else-g-eq0-2
returns-else-g-eq0-2 c = simp (eq-eqb _ _ c.if-g-eq0.true, ne_eqb _ _ c.if-g-eq0-2.false)

pub returns-else-g-eq0 : goal.returns-else-g-eq0
returns-else-g-eq0 c = simp (ne_eqb _ _ c.if-g-eq0.false)
