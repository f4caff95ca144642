-- How rows are gathered one by one: the first six are kept, all are counted.
use Rattle.std.specs.Prelude.{Bool, cond, not, List, [], ◌∷◌, ℕ, ◌+◌, ◌-◌, min, ltb, length, take, set}
use Rattle.std.proofs.lemmas.List.Edits.{sets}
use Rattle.options.specs.declared.Options.{Options}
use Rattle.rules.specs.declared.seat_hand.SeatHand.{SeatHand}
use Rattle.rules.specs.SeatHand.{played_of}
use Rattle.rules.specs.Waits.{waits}
use Rattle.dealer_screen.specs.declared.Screen.{Screen}
use Rattle.dealer_screen.specs.declared.lights.SeatLights.{SeatLights}
use Rattle.dealer_screen.specs.declared.rows.Row.{Row}
use Rattle.dealer_screen.specs.declared.rows.Rows.{Rows}
use Rattle.dealer_screen.specs.Rows.{blank_rows, shown}

abbrev pub make_rows : List Row → ℕ → Rows
make_rows each count = record { each = each; count = count }

-- The struct of the code that holds these rows.
unfoldable pub rows_of : List Row → Rows
rows_of rows = make_rows (sets blank_rows 0 (take shown rows)) (length rows)

-- One row more, and several.
unfoldable pub with_row : Rows → Row → Rows
with_row rows r = make_rows (cond (ltb rows.count 6) (set rows.each rows.count r) rows.each) (rows.count + 1)

unfoldable pub with_rows : Rows → List Row → Rows
with_rows rows [] = rows
with_rows rows (r ∷ rs) = with_rows (with_row rows r) rs

-- Whether a hand is one of those that are gathered: that wait, or that do not.
abbrev pub wanted : Bool → Options → ℕ → ℕ → SeatHand → Bool
wanted waiting o card many h = cond waiting (waits o card many (played_of h)) (not (waits o card many (played_of h)))

-- The screen of these fields and of the rows that the struct holds.
abbrev pub held_screen : List SeatLights → Rows → Screen
held_screen seats rows = record { seats = seats; rows = rows.each; shown = min rows.count 6; beyond = rows.count - 6 }
