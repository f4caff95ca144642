-- A fold over the face, as often as it is still to come, is the definition's recursion.
use Rattle.std.proofs.Common.{rules, ◌≡◌, ◌-◌, ◌∙◌}
use Rattle.std.proofs.iter.runs.Made.{chains}
use Rattle.std.specs.List.{fold}
use Rattle.std.specs.Prelude.{replicate}
use Rattle.script.specs.Begun.{placed}
use Rattle.script.proofs.orders.Orders.{fold-placed_all}
use Rattle.script.proofs.orders.with_face.Goals as goal

pub returns : goal.returns
returns c =
    let here = c.args in
    let folded : c.fold.result ≡ fold placed here.o (replicate (here.decks - here.used) here.face) = search (rules, chains) in
    folded ∙ fold-placed_all here.o (replicate (here.decks - here.used) here.face)
