-- Fields and rows are those of the definition, on a broken table and on any other.
use mathlib.Core.Path.{sym, ◌∙◌}
use Rattle.dealer_screen.proofs.Gather.{held_all, held_none}
use Rattle.dealer_screen.proofs.shown_screen.Goals as goal

pub all_dark-requires : goal.all_dark-requires
all_dark-requires c = sym c.broken.ensures ∙ c.if-broken.true

pub returns-then-broken : goal.returns-then-broken
returns-then-broken c =
    let none = c in
    let lit = none in
    let asked = lit in
    let t = asked.args.t in
    c.made.ensures ∙ held_all t lit.all_dark.result none.no_rows.result lit.all_dark.ensures (held_none t (sym asked.broken.ensures ∙ lit.if-broken.true) none.no_rows.result none.no_rows.ensures)

pub returns : goal.returns
returns c =
    let same = c.new-whole.ensures in
    c.made-2.ensures ∙ held_all c.args.t c.all_lights.result c.all_rows.result (rw same at c.all_lights.ensures) (rw same at c.all_rows.ensures)
