-- Without a side stake there is nothing to ask; else each lies beside a stake and within its limit.
use mathlib.Core.Path.{sym, ◌∙◌}
use borrow.Author.Tests.{lt-ltb, le-ltb}
use Rattle.broken.proofs.seat.Laws.{sides-none, sides_unstaked, sides-staked}
use Rattle.broken.proofs.seat.sound_sides.Goals as goal

pub returns-then-no_sides : goal.returns-then-no_sides
returns-then-no_sides c = c.if-no_sides.true ∙ sym (sides-none c.args.s (sym c.no_sides.ensures ∙ c.if-no_sides.true))

pub returns-then-s-gt0 : goal.returns-then-s-gt0
returns-then-s-gt0 c = c.small_sides.ensures ∙ sym (sides-staked c.args.s (lt-ltb _ _ c.if-s-gt0.true))

pub returns-else-s-gt0 : goal.returns-else-s-gt0
returns-else-s-gt0 c =
    let none = le-ltb _ _ c.if-s-gt0.false in
    none ∙ sym c.if-no_sides.false ∙ c.no_sides.ensures ∙ sym (sides_unstaked c.args.s none)
