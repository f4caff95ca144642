-- Past the count there is no list; else it is picked, and the sum is that of the table behind it, on which close is accepted.
use mathlib.Core.Path.{◌≡◌, sym, ◌∙◌, ap, ap₂}
use native.Mathlib.Omega.{arith}
use lib.ListN.{length}
use borrow.Author.Rules.{rules}
use mir.Syntax.{w64}
use mir.Val.{SFits}
use mir.ValLaws.{to_z-of_z}
use Rattle.call.specs.declared.At.{At}
use Rattle.table.specs.declared.Table.{Table}
use Rattle.ways.specs.Ways.{ways, ways_from}
use Rattle.ways.specs.Sum.{end_sum}
use Rattle.ways.proofs.Given.{number-unbroken, way_past, way_found}
use Rattle.ways.proofs.counted_way.Goals.{After-count_from}
use Rattle.ways.proofs.counted_way.Goals as goal

all : (c : After-count_from) → c.count_from.result ≡ length (ways c.args.t)
all c = c.count_from.ensures ∙ ap₂ (λ (at : At) (u : Table). length (ways_from 8 at u)) c.player-at.ensures c.new-whole.ensures

pub new-whole-requires : goal.new-whole-requires
new-whole-requires c = number-unbroken c.args.t (sym c.in_ok-check_ways.ensures)

pub returns-then-count_from-place-clause-way : goal.returns-then-count_from-place-clause-way
returns-then-count_from-place-clause-way c =
    let many = all (goal.at.returns-then-count_from-place-clause-way c).After-count_from in
    c.no_way.ensures ∙ way_past c.args.t c.args.place (sym c.in_ok-check_ways.ensures) (omega (arith, many, c.if-count_from-place.true))

pub returns-clause-way : goal.returns-clause-way
returns-clause-way c =
    let many = all (goal.at.returns-clause-way c).After-count_from in
    let ends = rw (c.new-whole.ensures, c.player-at.ensures) at c.pick_list-p.ensures in
    let fits : SFits w64 c.in_ok-sum.sum = search rules in
    way_found c.args.t c.args.place (sym c.in_ok-check_ways.ensures) (omega (arith, many, c.if-count_from-place.false)) _ _ ends.list
    (to_z-of_z w64 c.in_ok-sum.sum fits ∙ c.in_ok-sum.ensures.sum ∙ ap end_sum ends.behind)
