-- Both are the first number that holds, with the opened table at 0 and the empty one else.
use mathlib.Core.Path.{refl}
use mathlib.Core.List.{List}
use Prim.Native.Nat.{ℕ}
use Rattle.options.specs.declared.Options.{Options}
use Rattle.answer.specs.Outcome.{outcome}
use Rattle.cashier_spec.specs.Opening.{open_number, opened}
use Rattle.books.specs.Laws.{Opens}

pub opens : (o : Options) (order : List ℕ) → Opens o order
unfolding outcome open_number opened
opens o order = refl
