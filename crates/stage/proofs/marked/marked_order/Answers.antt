-- The cards that come first and the others behind them, placed one after another: both orders compute to the same list.
use Rattle.std.proofs.Common.{ap}
use Rattle.std.specs.Prelude.{min, take}
use Rattle.lists.specs.Tests.{any_of}
use Rattle.lists.specs.Sum.{sum_of}
use Rattle.script.specs.Begun.{placed, placed_all, placed_faces, begun}
use Rattle.script.specs.declared.orders.Order.{Order}
use Rattle.engine.specs.Session.{others, marked, order}
use Rattle.stage.proofs.marked.marked_order.Goals as goal

pub returns : goal.returns
unfolding any_of sum_of placed placed_all placed_faces begun others marked order
returns c = ap (λ (o : Order). take (min o.count 416) o.cards) c.begun_order.ensures
