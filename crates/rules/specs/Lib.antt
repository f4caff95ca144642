-- Document 01, "The seventeen calls", the guest: the rules of a hand in its seat, which calls and history share.
-- Where a hand comes from and how it ended; whether even and five are open to it.
pub mod SeatHand
pub mod OpenCalls
-- Which hand waits, and whose turn it is.
pub mod Waits
pub mod Turn
-- Which decision the rules permit, purse and shoe left aside.
pub mod Permits
pub mod Leaving
-- Whether a seat has drawn, doubled or split.
pub mod Drew
