-- Those that wait are gathered first, then the others; neither pass finds more than 36.
use mathlib.Core.Path.{ap}
use native.Mathlib.Omega.{arith}
use Rattle.dealer_screen.specs.declared.rows.Rows.{Rows}
use Rattle.dealer_screen.specs.Aids.Held.{rows_of}
use Rattle.dealer_screen.proofs.Gather.{all_gathered}
use Rattle.dealer_screen.proofs.rows.all_rows.Goals as goal

pub table_rows-waiting-requires : goal.table_rows-waiting-requires
unfolding rows_of
table_rows-waiting-requires c = omega (arith, ap (λ (r : Rows). r.count) c.no_rows.ensures)

pub table_rows-requires : goal.table_rows-requires
unfolding rows_of
table_rows-requires c = omega (arith, ap (λ (r : Rows). r.count) c.no_rows.ensures, c.table_rows-waiting.ensures.few)

pub returns : goal.returns
returns c =
    let same = c.table-t.ensures.same in
    all_gathered c.args.t.now c.table-t.ensures.whole c.no_rows.result c.table_rows-waiting.result c.table_rows.result c.no_rows.ensures
    (rw same at c.table_rows-waiting.ensures.same) (rw same at c.table_rows.ensures.same)
