-- An accepted credit keeps the table good: the tray holds the amount, and what leaves the tray leaves the table.
use mathlib.Core.Path.{◌≡◌, refl}
use mathlib.Core.Bool.{false}
use mathlib.Core.List.{List, ◌∷◌}
use Prim.Native.Nat.{ℕ, ◌-◌, ◌≤◌, ◌<◌}
use native.Mathlib.Omega.{arith}
use borrow.Author.Tests.{ltb-false, eqb-false}
use Rattle.lists.specs.Tests.{all_of}
use Rattle.call.specs.declared.Call.TheVariants.{Credit}
use Rattle.call.specs.Refusal.{first}
use Rattle.call.proofs.Refusals.{none_hold}
use Rattle.table.specs.declared.Table.{Table}
use Rattle.table.specs.Table.{is_dealt}
use Rattle.table.specs.Broken.{broken}
use Rattle.table.specs.Shape.{Shaped}
use Rattle.table.specs.Aids.Sound.{Sound}
use Rattle.history.specs.Entry.{Entry}
use Rattle.history.specs.Aids.MakeEntry.{entry}
use Rattle.agreement.specs.Aids.Agrees.{Good}
use Rattle.cashier_spec.specs.Credit.{credit_conditions, credit_effect}
use Rattle.cashier_spec.proofs.Tray.{TrayMoves, tray_kept, tray_good}

-- what an accepted credit says
pub record CreditAccepted (t : Table) (n : ℕ) : Type 0 where
  pub unbroken : broken t ≡ false
  pub between : is_dealt t ≡ false
  pub some : 0 < n
  pub enough : n ≤ t.tray

module _ (t : Table) (n : ℕ) (e : first (credit_conditions t n) ≡ 0) where
  pub credit-accepted : CreditAccepted t n
  unfolding credit_conditions all_of
  credit-accepted =
      let (unbroken, (between, (some, (enough, _)))) = none_hold (credit_conditions t n) refl e in
      record { unbroken = unbroken; between = between; some = omega (arith, eqb-false n 0 some); enough = ltb-false t.tray n enough }

  credit-moves : Sound t → TrayMoves t (t.tray - n) 0 n
  credit-moves sound = record { between = credit-accepted.between; pays = omega (arith, credit-accepted.enough); in_limit = omega (arith, sound.money) }

pub credit-kept : (t : Table) (n : ℕ) → Shaped t → Sound t → first (credit_conditions t n) ≡ 0 → Shaped (credit_effect t n) × Sound (credit_effect t n)
unfolding credit_effect
credit-kept t n shaped sound e = tray_kept (credit-moves t n e sound) shaped sound

pub credit_good : (opening : List ℕ) (es : List Entry) (t : Table) (n : ℕ) (order : List ℕ) → Good opening es t → first (credit_conditions t n) ≡ 0
    → Good opening (entry (Credit n) order ∷ es) (credit_effect t n)
unfolding credit_effect
credit_good opening es t n order g e =
    tray_good (credit-moves t n e g.sound) opening es (entry (Credit n) order) refl refl refl refl g
