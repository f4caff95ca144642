-- What an accepted call says, by name, and that it keeps the table good: sound, and in agreement with the history that has the call as its newest. A file
-- for each call, and before them what several share.
pub mod BetweenRounds
pub mod Order
pub mod Tray
pub mod Purse
pub mod Opening
pub mod Load
pub mod Fill
pub mod Credit
pub mod Buy
pub mod Cash
pub mod Stake
pub mod Side
