-- Lists of a number for each of the eight endings.
use mathlib.Core.Path.{◌≡◌, refl}
use mathlib.Core.Bool.{Bool, true, false, cond}
use mathlib.Core.List.{List}
use Prim.Native.Nat.{ℕ, zero, suc, ◌-◌, ◌<◌}
use native.Mathlib.Nat.{zero-mul, one-mul}
use native.Mathlib.Omega.{arith}
use borrow.Author.Tests.{ltb-false}
use lib.Dec.{ltb}
use lib.ListN.{set, replicate}
use Rattle.cards.specs.Natural.{is_natural}
use Rattle.cards.specs.Total.{total, is_bust}
use Rattle.payment.specs.Bank.{must_draw}
use Rattle.bank_chances.specs.Ending.{ending_of}
use Rattle.bank_chances.specs.Aids.Ways.{only_ending}

-- one ending alone
pub only_one : (e many : ℕ) → e < 8 → set (replicate 8 0) e many ≡ only_ending e many
only_one zero many h = simp (zero-mul, one-mul)
only_one (suc zero) many h = simp (zero-mul, one-mul)
only_one (suc (suc zero)) many h = simp (zero-mul, one-mul)
only_one (suc (suc (suc zero))) many h = simp (zero-mul, one-mul)
only_one (suc (suc (suc (suc zero)))) many h = simp (zero-mul, one-mul)
only_one (suc (suc (suc (suc (suc zero))))) many h = simp (zero-mul, one-mul)
only_one (suc (suc (suc (suc (suc (suc zero)))))) many h = simp (zero-mul, one-mul)
only_one (suc (suc (suc (suc (suc (suc (suc zero))))))) many h = simp (zero-mul, one-mul)
only_one (suc (suc (suc (suc (suc (suc (suc (suc e)))))))) many h = absurd (omega arith)

-- every bank has one of the eight
not_bust : (bust : Bool) (t : ℕ) → ltb 21 t ≡ bust → cond bust 6 (t - 16) < 8
not_bust true t e = omega arith
not_bust false t e = omega (arith, ltb-false 21 t e)

pub ending_below : (bank : List ℕ) → ending_of bank < 8
unfolding ending_of
ending_below bank = go (must_draw bank) (is_natural bank)
  where
    go : (draws natural : Bool) → cond draws 7 (cond natural 0 (cond (is_bust bank) 6 (total bank - 16))) < 8
    go true natural = omega arith
    go false true = omega arith
    go false false = not_bust (is_bust bank) (total bank) refl
