-- The conditions are asked in the order of the list.
use mathlib.Core.Path.{◌∙◌, ap}
use lib.ListN.{length}
use Rattle.call.specs.Refusal.{first}
use Rattle.table.specs.declared.Table.{Table}
use Rattle.table.specs.Broken.{broken}
use Rattle.deal_spec.specs.Deal.{deal_conditions}
use Rattle.deal.proofs.Asked.{deal-asked}
use Rattle.deal.proofs.check_deal.Goals as goal

pub returns : goal.returns
unfolding first
returns c =
    let same = c.table-t.ensures.same in
    c.first_refusal.ensures
    ∙ rw c.from.ensures
    (deal-asked c.table-t.result.now (ap (λ (x : Table). length x.seats) same ∙ c.table-t.ensures.nine) (ap broken same ∙ c.table-t.ensures.whole)
    c.is_dealt.ensures c.table_sums-sums.ensures c.load_due.ensures c.cards_left-left.ensures c.deal_takes.ensures)
    ∙ ap (λ (x : Table). first (deal_conditions x)) same
