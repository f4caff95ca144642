-- The nine seats are asked in their order.
use Rattle.std.proofs.Common.{rules, tests}
use Rattle.std.proofs.lemmas.Iterator.{YieldsList-from_slice}
use Rattle.std.proofs.lemmas.Iterator.Search.{any_from_yields_List}
use Rattle.lists.proofs.Chains.{any_of-list_any}
use Rattle.lists.proofs.Parts.{any_map}
use Rattle.rules.specs.Drew.{seat_drew}
use Rattle.table.specs.declared.Seat.{Seat}
use Rattle.table.specs.Progress.{any_drew}
use Rattle.table.specs.Seat.{hands}
use Rattle.decisions.proofs.progress.any_drew.Goals as goal

pub returns : goal.returns
unfolding any_drew
returns c =
    let t = c.args.t.now in
    let test = λ (s : Seat). seat_drew (hands s) in
    rw (any_map, any_of-list_any) (any_from_yields_List test _ _ _ c.any.ensures.ran (YieldsList-from_slice t.seats cc) (λ x b q k. search (rules, tests)))
