-- No row is kept and none is counted.
use mathlib.Core.Path.{ap}
use mathlib.Core.List.{[], ◌∷◌}
use Rattle.dealer_screen.specs.declared.rows.Row.{Row}
use Rattle.dealer_screen.specs.Aids.Held.{make_rows, rows_of}
use Rattle.dealer_screen.proofs.rows.no_rows.Goals as goal

pub returns : goal.returns
unfolding rows_of
returns c = ap (λ (r : Row). make_rows (r ∷ r ∷ r ∷ r ∷ r ∷ r ∷ []) 0) c.no_row.ensures
