-- Sums far below 2^63 are kept by a cast, and so is their difference, whichever its sign.
use mathlib.Core.Path.{◌≡◌}
use mathlib.Core.Bool.{Bool, true, false, cond}
use Prim.Native.Nat.{ℕ, zero, suc, ◌-◌, ◌≤◌}
use native.Mathlib.Omega.{arith}
use lib.Dec.{ltb}
use lib.IntN.{pos, negsuc, ◌-ℤ◌}
use mir.Syntax.{w64}
use mir.Val.{SFits, to_z, of_z}
use mir.ValLaws.{to_z_pos, to_z-of_z}

either : (b : Bool) (m n : ℕ) → m ≤ 1000000000000000 → n ≤ 1000000000000000 → SFits w64 (cond b (negsuc m) (pos n))
either true m n h k = record { sfits = omega arith }
either false m n h k = record { sfits = omega arith }

module _ (returned wagered : ℕ) (r : returned ≤ 1000000000000000) (w : wagered ≤ 1000000000000000) where
  fits : SFits w64 (pos returned -ℤ pos wagered)
  fits = go wagered w
    where
      go : (n : ℕ) → n ≤ 1000000000000000 → SFits w64 (pos returned -ℤ pos n)
      go zero l = record { sfits = omega arith }
      go (suc n) l = either (ltb returned (suc n)) (suc n - suc returned) (returned - suc n) (omega arith) (omega arith)

  pub casts_fit : SFits w64 (to_z w64 returned -ℤ to_z w64 wagered)
  casts_fit = rw (to_z_pos w64 returned (omega arith), to_z_pos w64 wagered (omega arith)) fits

  pub casts_net : to_z w64 (of_z w64 (to_z w64 returned -ℤ to_z w64 wagered)) ≡ pos returned -ℤ pos wagered
  casts_net = rw (to_z_pos w64 returned (omega arith), to_z_pos w64 wagered (omega arith)) (to_z-of_z w64 (pos returned -ℤ pos wagered) fits)
