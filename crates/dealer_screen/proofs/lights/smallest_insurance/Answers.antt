-- Half of the stake of the guest there.
use mathlib.Core.Path.{ap}
use Prim.Native.Nat.{◌/◌}
use Rattle.table.specs.declared.Money.{Money}
use Rattle.dealer_screen.proofs.lights.smallest_insurance.Goals as goal

pub returns : goal.returns
returns c = ap (λ (m : Money). m.stake / 2) c.guest_money-money.ensures
