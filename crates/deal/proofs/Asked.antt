-- The conditions of deal from the code's tests, which are asked in the order of its list.
use mathlib.Core.Path.{◌≡◌}
use mathlib.Core.Bool.{Bool, false}
use Prim.Native.Nat.{ℕ}
use lib.Dec.{ltb, leb, eqb}
use lib.ListN.{length}
use Rattle.call.specs.Refusal.{asked, first}
use Rattle.table.specs.declared.Table.{Table}
use Rattle.table.specs.Table.{is_dealt, cards_left}
use Rattle.table.specs.Broken.{broken}
use Rattle.table.proofs.Facts.{unbroken}
use Rattle.money.specs.declared.sums.Sums.{Sums}
use Rattle.money.specs.Sums.{table_sums}
use Rattle.money.proofs.sums.Capping.{nothing-staked}
use Rattle.deal_spec.specs.Deal.{deal_takes, load_due, deal_conditions}

-- of a table that is not broken
pub deal-asked : (t : Table) {dealt : Bool} {m : Sums} {due : Bool} {left takes : ℕ} → length t.seats ≡ 9 → broken t ≡ false → dealt ≡ is_dealt t → m ≡ table_sums t → due ≡ load_due t.options t.shoe → left ≡ cards_left t → takes ≡ deal_takes t
    → asked 4 dealt (asked 6 (eqb m.stakes 0) (asked 16 (ltb t.tray m.cover) (asked 17 due (asked 17 (leb left t.options.cut) (asked 17 (ltb left takes) 0)))))
    ≡ first (deal_conditions t)
unfolding deal_conditions first
deal-asked t {dealt} {m} {due} {left} {takes} nine whole is-dealt sums is-due is-left is-takes =
    rw (whole, is-dealt, is-due, is-left, is-takes, ← nothing-staked t m sums nine (λ i h. ((unbroken t whole).seats i h).seated_first_lem), sums)
