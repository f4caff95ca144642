-- Document 01, "Cards and totals": a seat's hands have places from 0. The hand at a place, and the seat with another hand there.
use Rattle.std.specs.Prelude.{ℕ, get_or, set}
use Rattle.rules.specs.declared.seat_hand.SeatHand.{SeatHand}
use Rattle.table.specs.declared.Seat.{Seat}
use Rattle.table.specs.Seat.{missing_place, make_seat}

abbrev pub place_of : Seat → ℕ → SeatHand
place_of s p = get_or s.hands.places p missing_place

abbrev pub with_place : Seat → ℕ → SeatHand → Seat
with_place s p h = make_seat s.money s.others (record { places = set s.hands.places p h; many = s.hands.many }) s.first

-- The hand, ended by this decision.
abbrev pub ended_by : SeatHand → ℕ → SeatHand
ended_by h code = record { hand = h.hand; origin = h.origin; ended = code }
