-- What a display reads: of the whole table with its turn, of a seat, of a hand. A broken table shows nothing.
pub mod Table
pub mod Seat
pub mod Hand
-- The hidden card is not among it.
pub mod InSight
