-- The three guests one after the other.
use mathlib.Core.Path.{ap₂}
use native.Mathlib.Omega.{arith}
use Prim.Native.Nat.{ℕ, ◌+◌}
use Rattle.table.specs.Seat.{guest_at}
use Rattle.ways.proofs.numbers.staked_of.Goals as goal

pub returns : goal.returns
unfolding guest_at
returns c =
    record { same = ap₂ (λ (x y : ℕ). x + y) (ap₂ (λ (x y : ℕ). x + y) c.is_staked.ensures.same c.is_staked-2.ensures.same) c.is_staked-3.ensures.same; small = omega arith }
