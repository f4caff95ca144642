-- Document 01, "The seventeen calls", the guest: stand, article 6 2). When it is refused, and the table after it. Every waiting hand may stand, so 13 is
-- never given.
use Rattle.std.specs.Prelude.{List, ℕ}
use Rattle.call.specs.Refusal.{Condition}
use Rattle.rules.specs.SeatHand.{by_stand}
use Rattle.table.specs.declared.Table.{Table}
use Rattle.decisions_spec.specs.Turn.{turn_conditions, end_effect}

abbrev pub stand_conditions : Table → ℕ → ℕ → List Condition
stand_conditions t j p = turn_conditions t j p

abbrev pub stand_effect : Table → ℕ → Table
stand_effect t j = end_effect by_stand t j
