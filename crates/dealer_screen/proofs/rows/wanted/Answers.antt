-- By whether those are gathered that wait.
use mathlib.Core.Path.{ap}
use mathlib.Core.Bool.{not}
use Rattle.dealer_screen.proofs.rows.wanted.Goals as goal

pub returns-then-waiting : goal.returns-then-waiting
returns-then-waiting c = rw c.if-waiting.true c.waits-w.ensures

pub returns-else-waiting : goal.returns-else-waiting
returns-else-waiting c = rw c.if-waiting.false (ap not c.waits-w.ensures)
