-- It branches where the definition does.
use mathlib.Core.Path.{refl, sym, ◌∙◌}
use Rattle.table.specs.Shoe.{burns_first}
use Rattle.deal.proofs.burn.burns_first.Goals as goal

pub returns-then-is_machine : goal.returns-then-is_machine
unfolding burns_first
returns-then-is_machine c = simp (sym c.is_machine.ensures ∙ c.if-is_machine.true) refl

pub returns-else-is_machine : goal.returns-else-is_machine
unfolding burns_first
returns-else-is_machine c = simp (sym c.is_machine.ensures ∙ c.if-is_machine.false) refl
