-- Document 01, "The seventeen calls", the guest: five (option on, exactly five cards, total at most 21, up card no ace), article 19. When it is refused,
-- and the table after it; the pay waits for close.
use Rattle.std.specs.Prelude.{not, List, [], ◌∷◌, ◌++◌, ℕ}
use Rattle.call.specs.Refusal.{Condition}
use Rattle.rules.specs.SeatHand.{by_five}
use Rattle.rules.specs.Leaving.{permits_five}
use Rattle.table.specs.declared.Table.{Table}
use Rattle.decisions_spec.specs.Turn.{turn_conditions, may_take, end_effect}

unfoldable pub five_conditions : Table → ℕ → ℕ → List Condition
five_conditions t j p = turn_conditions t j p ++ (13, not (may_take permits_five t j)) ∷ []

abbrev pub five_effect : Table → ℕ → Table
five_effect t j = end_effect by_five t j
