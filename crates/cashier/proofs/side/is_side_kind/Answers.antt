-- The tests are the definition's.
use borrow.Author.Tests.{le-leb, lt-leb}
use Rattle.cashier_spec.specs.Side.{is_side_kind}
use Rattle.cashier.proofs.side.is_side_kind.Goals as goal

pub returns-then-kind-ge1 : goal.returns-then-kind-ge1
unfolding is_side_kind
returns-then-kind-ge1 c = simp (le-leb _ _ c.if-kind-ge1.true)

pub returns-else-kind-ge1 : goal.returns-else-kind-ge1
unfolding is_side_kind
returns-else-kind-ge1 c = simp (lt-leb _ _ c.if-kind-ge1.false)
