-- How much the sums of k guests can be: one past 10^15 for each. So the sums of 27 guests are far from 64 bits.
use Rattle.std.specs.Prelude.{ℕ, ◌+◌, ◌*◌, ◌≤◌}
use Rattle.table.specs.Money.{most_money}
use Rattle.money.specs.declared.sums.Sums.{Sums}

pub record SumsFit (k : ℕ) (m : Sums) : Type 0 where
  pub stakes : m.stakes ≤ k * (most_money + 1)
  pub laid : m.laid ≤ k * (most_money + 1)
  pub prizes : m.prizes ≤ k * (most_money + 1)
  pub cover : m.cover ≤ k * (most_money + 1)
  pub purses : m.purses ≤ k * (most_money + 1)
