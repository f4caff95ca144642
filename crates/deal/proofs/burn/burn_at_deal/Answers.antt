-- The tests are the definition's, and the decks are a byte.
use mathlib.Core.Path.{sym, ◌∙◌}
use native.Mathlib.Omega.{arith}
use borrow.Author.Tests.{eq-eqb, ne_eqb}
use Rattle.deal_spec.specs.Burn.{burn_at_deal}
use Rattle.deal.proofs.burn.burn_at_deal.Goals as goal

pub returns-then-o-eq1 : goal.returns-then-o-eq1
unfolding burn_at_deal
returns-then-o-eq1 c = record { same = simp (sym c.burns_first.ensures ∙ c.if-burns_first.true, eq-eqb _ _ c.if-o-eq1.true); few = omega arith }

pub returns-then-burns_first : goal.returns-then-burns_first
unfolding burn_at_deal
returns-then-burns_first c = record { same = simp (sym c.burns_first.ensures ∙ c.if-burns_first.true, ne_eqb _ _ c.if-o-eq1.false); few = omega arith }

pub returns-then-o-eq0 : goal.returns-then-o-eq0
unfolding burn_at_deal
returns-then-o-eq0 c = record { same = simp (sym c.burns_first.ensures ∙ c.if-burns_first.false, eq-eqb _ _ c.if-o-eq0.true); few = omega arith }

pub returns-else-o-eq0 : goal.returns-else-o-eq0
unfolding burn_at_deal
returns-else-o-eq0 c = record { same = simp (sym c.burns_first.ensures ∙ c.if-burns_first.false, ne_eqb _ _ c.if-o-eq0.false); few = omega arith }
