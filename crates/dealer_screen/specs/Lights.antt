-- Request 2.12: each call with a seat, each side kind for itself, has a field at each seat and position, lit exactly when that call, with its smallest permitted amount, would be accepted now:
-- by the engine's step.
use Rattle.std.specs.Prelude.{Bool, List, [], ◌∷◌, map, ℕ, ◌/◌, eqb}
use Rattle.call.specs.declared.At.{At}
use Rattle.call.specs.declared.Call.{Call}
use Rattle.call.specs.declared.Call.TheVariants.{Buy, Cash, Stake, Insure, Stand, Draw, Double, Split, Surrender, Even, Five, Side}
use Rattle.table.specs.declared.Table.{Table}
use Rattle.table.specs.Seat.{stake}
use Rattle.table.specs.Table.{guest_of}
use Rattle.engine.specs.Step.{number}
use Rattle.dealer_screen.specs.declared.lights.Lights.{Lights}
use Rattle.dealer_screen.specs.declared.lights.SeatLights.{SeatLights}

-- The call would be accepted now.
abbrev pub accepts : Table → Call → Bool
accepts t c = eqb (number t c []) 0

-- The smallest permitted amounts (law `Smallest`): 1 of a buy, of a cash and of a side stake; the smallest stake; half of the guest's stake as insurance.
abbrev pub smallest_stake : Table → ℕ
smallest_stake t = t.options.smallest

abbrev pub smallest_insurance : Table → At → ℕ
smallest_insurance t at = stake (guest_of t at.seat at.position) / 2

-- The fields of one guest.
unfoldable pub lights_at : Table → At → Lights
lights_at t at =
    record {
      buy = accepts t (Buy at 1);
      cash = accepts t (Cash at 1);
      stake = accepts t (Stake at (smallest_stake t));
      insure = accepts t (Insure at (smallest_insurance t at));
      stand = accepts t (Stand at);
      draw = accepts t (Draw at);
      double = accepts t (Double at);
      split = accepts t (Split at);
      surrender = accepts t (Surrender at);
      even = accepts t (Even at);
      five = accepts t (Five at);
      pair = accepts t (Side at 1 1);
      sevens = accepts t (Side at 2 1);
      more = accepts t (Side at 3 1);
      less = accepts t (Side at 4 1);
    }

-- Those of a seat, by position, and of the nine seats.
abbrev pub guest_at_seat : ℕ → ℕ → At
guest_at_seat seat position = record { seat = seat; position = position }

unfoldable pub seat_lights : Table → ℕ → SeatLights
seat_lights t seat = record { guests = map (λ position. lights_at t (guest_at_seat seat position)) (0 ∷ 1 ∷ 2 ∷ []) }

abbrev pub nine_seats : List ℕ
nine_seats = 0 ∷ 1 ∷ 2 ∷ 3 ∷ 4 ∷ 5 ∷ 6 ∷ 7 ∷ 8 ∷ []

abbrev pub all_lights : Table → List SeatLights
all_lights t = map (seat_lights t) nine_seats
