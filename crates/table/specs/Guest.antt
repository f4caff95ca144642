-- Document 01, "The seventeen calls", the guest, and request 2.6: a guest's money, and how a call moves it. Nothing else says which fields it has.
use Rattle.std.specs.Prelude.{Bool, ◌&&◌, List, [], ℕ, ◌-◌, eqb, get_or, set, replicate}
use Rattle.lists.specs.Below.{all_below}
use Rattle.table.specs.declared.Money.{Money}

-- Nothing but a purse.
abbrev pub holding : ℕ → Money
holding purse = record { purse = purse; stake = 0; insurance = 0; sides = replicate 4 0 }

-- What stands where the table has no such seat.
abbrev pub missing_money : Money
missing_money = record { purse = 0; stake = 0; insurance = 0; sides = [] }

-- Nobody: no purse and nothing laid.
abbrev pub is_nobody : Money → Bool
is_nobody m = eqb m.purse 0 && eqb m.stake 0 && eqb m.insurance 0 && all_below (λ k. eqb (get_or m.sides k 0) 0) 4

-- Nobody in either of the two positions beside the seated guest's.
abbrev pub nobody_in : List Money → Bool
nobody_in others = is_nobody (get_or others 0 missing_money) && is_nobody (get_or others 1 missing_money)

-- The same with another purse.
abbrev pub with_purse : Money → ℕ → Money
with_purse m purse = record { purse = purse; stake = m.stake; insurance = m.insurance; sides = m.sides }

-- n of the purse staked, n of it laid as insurance, and n of it laid as a side stake of kind k, 1 to 4.
abbrev pub staking : Money → ℕ → Money
staking m n = record { purse = m.purse - n; stake = n; insurance = m.insurance; sides = m.sides }

abbrev pub insuring : Money → ℕ → Money
insuring m n = record { purse = m.purse - n; stake = m.stake; insurance = n; sides = m.sides }

abbrev pub siding : Money → ℕ → ℕ → Money
siding m k n = record { purse = m.purse - n; stake = m.stake; insurance = m.insurance; sides = set m.sides (k - 1) n }
