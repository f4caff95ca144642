-- Document 01, "The seventeen calls", article 6 3): whose turn it is at a table, by the rule of `rules` over the hands of all seats.
use Rattle.std.specs.Prelude.{Bool, ℕ}
use Rattle.rules.specs.Turn.{turn_seat, turn_place, some_waits}
use Rattle.table.specs.declared.Table.{Table}
use Rattle.table.specs.Table.{seats_hands, up}

-- The seat; 9 where nobody's turn it is.
abbrev pub seat_in_turn : Table → ℕ
seat_in_turn t = turn_seat t.options (up t) (seats_hands t)

-- The place in that seat; 0 where nobody's turn it is.
abbrev pub place_in_turn : Table → ℕ
place_in_turn t = turn_place t.options (up t) (seats_hands t)

-- Some hand on the table waits.
abbrev pub any_waits : Table → Bool
any_waits t = some_waits t.options (up t) (seats_hands t)
