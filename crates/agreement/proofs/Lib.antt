-- Laws that every call cites: what a call is not, what it leaves of a history's values, how a call of one seat keeps the agreement, and how one that ends a round
-- does.
pub mod Groups
pub mod Purse
pub mod Quiet
pub mod Events
pub mod Fresh
pub mod OneSeat
pub mod OneGuest
pub mod EndOfRound
