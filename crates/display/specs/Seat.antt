-- What a display reads of a guest at a seat (request 2.8), by the definitions of document 01's money. A broken table, a seat beyond the option and a position that there is not show
-- nothing.
use Rattle.std.specs.Prelude.{cond, ◌||◌, List, ℕ, leb, length}
use Rattle.options.specs.declared.Options.{Options}
use Rattle.table.specs.declared.Seat.{Seat}
use Rattle.table.specs.declared.Table.{Table}
use Rattle.table.specs.Seat.{empty_seat, purse, stake, insurance, sides, hands, laid, prizes}
use Rattle.table.specs.Table.{guest_of, no_such_seat}
use Rattle.table.specs.Broken.{broken}
use Rattle.display.specs.declared.seat.SeatShown.{SeatShown}

-- The guest in that position of the seat; an empty seat where the table is broken or has no such seat or position.
unfoldable pub guest_or_empty : Table → ℕ → ℕ → Seat
guest_or_empty t i p = cond (broken t || no_such_seat t i || leb 3 p) empty_seat (guest_of t i p)

-- The purse, the stake, the insurance and the side stakes; the layout money and the prizes in this round; how many hands.
abbrev pub make_seat_shown : ℕ → ℕ → ℕ → List ℕ → ℕ → ℕ → ℕ → SeatShown
make_seat_shown purse stake insurance sides layout prizes hands =
    record { purse = purse; stake = stake; insurance = insurance; sides = sides; layout = layout; prizes = prizes; hands = hands }

abbrev pub seat_values : Options → Seat → SeatShown
seat_values o s = make_seat_shown (purse s) (stake s) (insurance s) (sides s) (laid s) (prizes o s) (length (hands s))

unfoldable pub seat_shown : Table → ℕ → ℕ → SeatShown
seat_shown t i p = seat_values t.options (guest_or_empty t i p)
