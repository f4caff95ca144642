-- A table on which seated guests alone bet answers by the rules for one guest.
pub mod Alone
pub mod Sums
pub mod Numbers
pub mod Effects
pub mod Others
pub mod AsBefore
