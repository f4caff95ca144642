-- Somebody has drawn, or else the nine seats are asked for a hand that has ended.
use Rattle.std.proofs.Common.{rules, tests}
use Rattle.std.proofs.lemmas.Iterator.{YieldsList-from_slice}
use Rattle.std.proofs.lemmas.Iterator.Search.{any_from_yields_List}
use lib.Dec.{ltb}
use Rattle.lists.specs.Tests.{any_of}
use Rattle.lists.proofs.Chains.{any_of-list_any}
use Rattle.lists.proofs.Parts.{any_map}
use Rattle.table.specs.declared.Seat.{Seat}
use Rattle.table.specs.Progress.{any_decided}
use Rattle.table.specs.Seat.{hands}
use Rattle.decisions.proofs.progress.any_decided.Goals as goal

pub returns-then-any_drew : goal.returns-then-any_drew
unfolding any_decided
returns-then-any_drew c = rw (← c.any_drew.ensures, c.if-any_drew.true)

pub returns-else-any_drew : goal.returns-else-any_drew
unfolding any_decided
returns-else-any_drew c =
    let test = λ (s : Seat). any_of (λ h. ltb 0 h.ended) (hands s) in
    rw (← c.any_drew.ensures, c.if-any_drew.false, any_map, any_of-list_any)
    (any_from_yields_List test _ _ _ c.any.ensures.ran (YieldsList-from_slice c.args.t.now.seats cc) (λ x b q k. search (rules, tests)))
