-- A run keeps a whole table whole, since each accepted call does, and an accepted opening gives one.
use mathlib.Core.Path.{◌≡◌, ap}
use mathlib.Core.Bool.{not}
use mathlib.Core.List.{List, [], ◌∷◌}
use Prim.Native.Nat.{ℕ}
use Rattle.options.specs.declared.Options.{Options}
use Rattle.table.specs.declared.Table.{Table}
use Rattle.table.proofs.Facts.{facts_sound}
use Rattle.history.specs.Entry.{Entry}
use Rattle.cashier_spec.specs.Opening.{open_number, opened}
use Rattle.cashier_spec.proofs.Opening.{open_good}
use Rattle.engine.specs.Step.{next}
use Rattle.engine.specs.Run.{run}
use Rattle.books.specs.Laws.{Whole}
use Rattle.books.proofs.Keeps.{keeps}
use Rattle.secret.proofs.Steps.{next_either}

pub run-whole : (t : Table) (es : List Entry) → Whole t → Whole (run t es)
unfolding run
run-whole t [] whole = whole
run-whole t (e ∷ es) whole = run-whole (next t e.call e.order) es (next_either t e.call e.order Whole (keeps t e.call e.order whole) whole)

pub opens_whole : (o : Options) (order : List ℕ) → open_number o order ≡ 0 → Whole (opened o order)
opens_whole o order opens =
    let good = open_good o order opens in
    record { shaped = good.shaped; sound = ap not (facts_sound _ good.shaped.bank good.sound) }
