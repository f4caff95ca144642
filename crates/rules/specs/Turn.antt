-- Document 01, "The seventeen calls", article 6 3): the turn is the first waiting hand, by seat, then by place in the seat. Both count from 0.
use Rattle.std.specs.Prelude.{Bool, List, [], ℕ, length, get_or}
use Rattle.lists.specs.Tests.{any_of, first_place}
use Rattle.options.specs.declared.Options.{Options}
use Rattle.rules.specs.SeatHand.{Played}
use Rattle.rules.specs.Waits.{waits}

-- Some hand of the seat waits.
abbrev pub seat_waits : Options → ℕ → List Played → Bool
seat_waits o up hands = any_of (waits o up (length hands)) hands

-- The place of the seat's first waiting hand; the number of its hands where none waits.
abbrev pub waiting_place : Options → ℕ → List Played → ℕ
waiting_place o up hands = first_place (waits o up (length hands)) hands

-- Some hand on the table waits.
abbrev pub some_waits : Options → ℕ → List (List Played) → Bool
some_waits o up seats = any_of (seat_waits o up) seats

-- The seat whose turn it is: the first with a waiting hand; the number of seats where nobody's turn it is.
abbrev pub turn_seat : Options → ℕ → List (List Played) → ℕ
turn_seat o up seats = first_place (seat_waits o up) seats

-- The place whose turn it is, in that seat.
abbrev pub turn_place : Options → ℕ → List (List Played) → ℕ
turn_place o up seats = waiting_place o up (get_or seats (turn_seat o up seats) [])
