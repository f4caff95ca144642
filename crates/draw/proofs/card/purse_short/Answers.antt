-- The guests are asked one after the other, each for its own stake.
use mathlib.Core.Path.{sym, ◌∙◌}
use Rattle.table.specs.Seat.{guest_at}
use Rattle.draw.proofs.card.purse_short.Goals as goal

pub returns-then-short : goal.returns-then-short
unfolding guest_at
returns-then-short c = simp (sym c.short.ensures ∙ c.if-short.true) c.if-short.true

pub returns-then-short-2 : goal.returns-then-short-2
unfolding guest_at
returns-then-short-2 c = simp (sym c.short.ensures ∙ c.if-short.false, sym c.short-else-short.ensures ∙ c.if-short-2.true) c.if-short-2.true

pub returns-else-short-2 : goal.returns-else-short-2
unfolding guest_at
returns-else-short-2 c =
    simp (sym c.short.ensures ∙ c.if-short.false, sym c.short-else-short.ensures ∙ c.if-short-2.false) c.short-else-short-2.ensures
