-- The two tests are the definition's, in its order.
use mathlib.Core.Path.{refl, sym, ◌∙◌}
use Rattle.deal_spec.specs.Deal.{load_due}
use Rattle.deal.proofs.load_due.Goals as goal

pub returns-then-not-is_shoe : goal.returns-then-not-is_shoe
unfolding load_due
returns-then-not-is_shoe c = simp (sym c.is_shoe.ensures ∙ c.if-not-is_shoe.true) refl

pub returns-else-not-is_shoe : goal.returns-else-not-is_shoe
unfolding load_due
returns-else-not-is_shoe c = simp (sym c.is_shoe.ensures ∙ c.if-not-is_shoe.false, c.if-not-is_shoe.false)
