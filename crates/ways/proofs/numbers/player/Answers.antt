-- The seated guest of the first staked seat.
use mathlib.Core.Path.{ap}
use Prim.Native.Nat.{ℕ}
use Rattle.call.specs.declared.At.{At}
use Rattle.ways.proofs.numbers.player.Goals as goal

abbrev seated : ℕ → At
seated seat = record { seat = seat; position = 0 }

pub returns : goal.returns
returns c = ap seated c.staked_seat.ensures
