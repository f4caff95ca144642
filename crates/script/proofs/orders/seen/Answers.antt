-- The cards that are the face are counted.
use Rattle.std.proofs.Common.{rules, ◌≡◌, ◌∙◌}
use Rattle.std.proofs.iter.runs.Made.{chains}
use Rattle.std.specs.List.{count_by}
use lib.Dec.{eqb}
use Rattle.script.proofs.orders.Orders.{count_by-count_of}
use Rattle.script.proofs.orders.seen.Goals as goal

pub returns : goal.returns
returns c =
    let counted : c.count.result ≡ count_by (λ card. eqb card c.args.face) c.args.cards.now = search (rules, chains) in
    counted ∙ count_by-count_of c.args.face c.args.cards.now
