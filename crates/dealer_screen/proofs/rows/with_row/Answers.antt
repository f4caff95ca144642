-- Kept where there are fewer than six, and counted.
use borrow.Author.Tests.{lt-ltb, le-ltb}
use Rattle.dealer_screen.specs.Aids.Held.{with_row}
use Rattle.dealer_screen.proofs.rows.with_row.Goals as goal

pub returns-then-at-lt6 : goal.returns-then-at-lt6
unfolding with_row
returns-then-at-lt6 c = simp (lt-ltb c.args.rows.count 6 c.if-at-lt6.true)

pub returns-else-at-lt6 : goal.returns-else-at-lt6
unfolding with_row
returns-else-at-lt6 c = simp (le-ltb c.args.rows.count 6 c.if-at-lt6.false)
