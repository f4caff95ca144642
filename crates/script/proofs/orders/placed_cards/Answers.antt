-- A fold over the cards is the definition's recursion.
use Rattle.std.proofs.Common.{rules, ◌≡◌, ◌∙◌}
use Rattle.std.proofs.iter.runs.Made.{chains}
use Rattle.std.specs.List.{fold}
use Rattle.script.specs.Begun.{empty_order, placed}
use Rattle.script.proofs.orders.Orders.{fold-placed_all}
use Rattle.script.proofs.orders.placed_cards.Goals as goal

pub returns : goal.returns
returns c =
    let folded : c.fold.result ≡ fold placed c.empty_order.result c.args.cards.now = search (rules, chains) in
    folded ∙ rw c.empty_order.ensures (fold-placed_all empty_order c.args.cards.now)
