-- The number that the engine's step gives back is 0 or not.
use mathlib.Core.Path.{ap}
use Prim.Native.Nat.{ℕ}
use lib.Dec.{eqb}
use Rattle.engine.specs.Step.{number}
use Rattle.dealer_screen.proofs.lights.accepts.Goals as goal

pub returns : goal.returns
unfolding number
returns c = ap (λ (n : ℕ). eqb n 0) (ap (λ g. g.number) c.step_whole-r.ensures)
