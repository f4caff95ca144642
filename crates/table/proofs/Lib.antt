-- Laws about tables that the calls cite.
pub mod Guests
pub mod Facts
pub mod AnyGuest
pub mod SeatHands
pub mod NextCards
pub mod Cover
pub mod SeatChange
pub mod GuestChange
pub mod RoundEnd
