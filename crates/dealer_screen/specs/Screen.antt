-- Request 2.12: the whole screen: the fields by seat and position, six rows, how many of them show a hand, and how many hands there are beyond them, 0 if none. A broken table lights nothing,
-- since every call on it gives 1, and shows no hands.
use Rattle.std.specs.Prelude.{◌-◌, min, List, length, take}
use Rattle.std.proofs.lemmas.List.Edits.{sets}
use Rattle.table.specs.declared.Table.{Table}
use Rattle.dealer_screen.specs.declared.lights.SeatLights.{SeatLights}
use Rattle.dealer_screen.specs.declared.rows.Row.{Row}
use Rattle.dealer_screen.specs.declared.Screen.{Screen}
use Rattle.dealer_screen.specs.Lights.{all_lights}
use Rattle.dealer_screen.specs.Rows.{shown, blank_rows, all_rows}

abbrev pub make_screen : List SeatLights → List Row → Screen
make_screen seats rows = record { seats = seats; rows = sets blank_rows 0 (take shown rows); shown = min (length rows) shown; beyond = length rows - shown }

unfoldable pub screen_of : Table → Screen
screen_of t = make_screen (all_lights t) (all_rows t)
