-- Document 01, "The seventeen calls", the guest: even (natural against an ace or ten-value), article 10 n.º 3. When it is refused, and the table after
-- it; the pay waits for close.
use Rattle.std.specs.Prelude.{not, List, [], ◌∷◌, ◌++◌, ℕ}
use Rattle.call.specs.Refusal.{Condition}
use Rattle.rules.specs.SeatHand.{by_even}
use Rattle.rules.specs.Leaving.{permits_even}
use Rattle.table.specs.declared.Table.{Table}
use Rattle.decisions_spec.specs.Turn.{turn_conditions, may_take, end_effect}

unfoldable pub even_conditions : Table → ℕ → ℕ → List Condition
even_conditions t j p = turn_conditions t j p ++ (13, not (may_take permits_even t j)) ∷ []

abbrev pub even_effect : Table → ℕ → Table
even_effect t j = end_effect by_even t j
