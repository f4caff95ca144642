-- It branches where the definition does.
use mathlib.Core.Path.{sym, ◌∙◌}
use borrow.Author.Tests.{le-leb, lt-leb}
use Rattle.script.specs.Named.{card_at}
use Rattle.script.proofs.named.card_at.Goals as goal

pub returns-then-letters-place : goal.returns-then-letters-place
unfolding card_at
returns-then-letters-place c = simp (le-leb _ _ c.if-letters-place.true)

pub returns : goal.returns
unfolding card_at
returns c = c.card.ensures ∙ sym (simp (lt-leb _ _ c.if-letters-place.false))
