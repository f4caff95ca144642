-- An accepted fill keeps the table good: the tray and the history's money grow by the same amount.
use mathlib.Core.Path.{◌≡◌, refl}
use mathlib.Core.Bool.{false}
use mathlib.Core.List.{List, ◌∷◌}
use Prim.Native.Nat.{ℕ, ◌+◌, ◌≤◌, ◌<◌}
use native.Mathlib.Omega.{arith}
use borrow.Author.Tests.{ltb-false, eqb-false}
use Rattle.lists.specs.Tests.{all_of}
use Rattle.call.specs.declared.Call.TheVariants.{Fill}
use Rattle.call.specs.Refusal.{first}
use Rattle.call.proofs.Refusals.{none_hold}
use Rattle.table.specs.declared.Table.{Table}
use Rattle.table.specs.Table.{is_dealt}
use Rattle.table.specs.Money.{most_money, all_money}
use Rattle.table.specs.Broken.{broken}
use Rattle.table.specs.Shape.{Shaped}
use Rattle.table.specs.Aids.Sound.{Sound}
use Rattle.history.specs.Entry.{Entry}
use Rattle.history.specs.Aids.MakeEntry.{entry}
use Rattle.agreement.specs.Aids.Agrees.{Good}
use Rattle.cashier_spec.specs.Fill.{fill_conditions, fill_effect}
use Rattle.cashier_spec.proofs.Tray.{TrayMoves, tray_kept, tray_good}

-- what an accepted fill says
pub record FillAccepted (t : Table) (n : ℕ) : Type 0 where
  pub unbroken : broken t ≡ false
  pub between : is_dealt t ≡ false
  pub some : 0 < n
  pub in_limit : all_money t + n ≤ most_money

module _ (t : Table) (n : ℕ) (e : first (fill_conditions t n) ≡ 0) where
  pub fill-accepted : FillAccepted t n
  unfolding fill_conditions all_of
  fill-accepted =
      let (unbroken, (between, (some, (in_limit, _)))) = none_hold (fill_conditions t n) refl e in
      record { unbroken = unbroken; between = between; some = omega (arith, eqb-false n 0 some); in_limit = ltb-false most_money (all_money t + n) in_limit }

  fill-moves : TrayMoves t (t.tray + n) n 0
  fill-moves = record { between = fill-accepted.between; pays = omega arith; in_limit = omega (arith, fill-accepted.in_limit) }

pub fill-kept : (t : Table) (n : ℕ) → Shaped t → Sound t → first (fill_conditions t n) ≡ 0 → Shaped (fill_effect t n) × Sound (fill_effect t n)
unfolding fill_effect
fill-kept t n shaped sound e = tray_kept (fill-moves t n e) shaped sound

pub fill_good : (opening : List ℕ) (es : List Entry) (t : Table) (n : ℕ) (order : List ℕ) → Good opening es t → first (fill_conditions t n) ≡ 0
    → Good opening (entry (Fill n) order ∷ es) (fill_effect t n)
unfolding fill_effect
fill_good opening es t n order g e = tray_good (fill-moves t n e) opening es (entry (Fill n) order) refl refl refl refl g
