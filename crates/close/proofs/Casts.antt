-- A net is a difference of two numbers that are cast first: up to 10^15 it fits into 64 bits, and what is stored is the net.
use mathlib.Core.Path.{◌≡◌}
use mathlib.Core.Bool.{Bool, true, false, cond}
use Prim.Native.Nat.{ℕ, zero, suc, ◌-◌, ◌≤◌}
use native.Mathlib.Omega.{arith}
use lib.Dec.{ltb}
use lib.IntN.{pos, negsuc, ◌-ℤ◌}
use mir.Syntax.{w64}
use mir.Val.{SFits, to_z, of_z}
use mir.ValLaws.{to_z_pos, to_z-of_z}
use Rattle.payment.specs.declared.pay.Pay.{Pay}
use Rattle.payment.specs.Pay.{net}

abbrev pub Small : Pay → Type 0
Small p = (p.laid ≤ 1000000000000000) × (p.back ≤ 1000000000000000)

-- a difference fits, whichever its sign
either : (b : Bool) (m n : ℕ) → m ≤ 1000000000000000 → n ≤ 1000000000000000 → SFits w64 (cond b (negsuc m) (pos n))
either true m n h k = record { sfits = omega arith }
either false m n h k = record { sfits = omega arith }

fits : (back laid : ℕ) → back ≤ 1000000000000000 → laid ≤ 1000000000000000 → SFits w64 (pos back -ℤ pos laid)
fits back zero b l = record { sfits = omega arith }
fits back (suc laid) b l = either (ltb back (suc laid)) (suc laid - suc back) (back - suc laid) (omega arith) (omega arith)

pub casts_fit : (back laid : ℕ) → back ≤ 1000000000000000 → laid ≤ 1000000000000000 → SFits w64 (to_z w64 back -ℤ to_z w64 laid)
casts_fit back laid b l = rw (to_z_pos w64 back (omega arith), to_z_pos w64 laid (omega arith)) (fits back laid b l)

pub casts_net : (p : Pay) → Small p → to_z w64 (of_z w64 (to_z w64 p.back -ℤ to_z w64 p.laid)) ≡ net p
casts_net p small =
    rw (to_z_pos w64 p.back (omega arith), to_z_pos w64 p.laid (omega arith))
    (to_z-of_z w64 (net p) (fits p.back p.laid small.1 small.0))
