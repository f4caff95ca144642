-- The test of the sums is the test of the money: cutting the purses does not change it.
use mathlib.Core.Path.{◌≡◌, ◌∙◌, ap}
use Prim.Native.Nat.{ℕ, ◌+◌}
use lib.Dec.{ltb}
use Rattle.table.specs.declared.Table.{Table}
use Rattle.table.specs.Money.{most_money, layout, past_most_money}
use Rattle.money.specs.declared.sums.Sums.{Sums}
use Rattle.money.specs.Sums.{table_sums}
use Rattle.money.proofs.sums.Capping.{limit_capped}

pub past_limit : (t : Table) (m : Sums) (n : ℕ) → m ≡ table_sums t → ltb most_money (t.tray + m.laid + m.purses + n) ≡ past_most_money t n
past_limit t m n same = ap (λ (m : Sums). ltb most_money (t.tray + m.laid + m.purses + n)) same ∙ limit_capped t.seats (t.tray + layout t) n
