-- The rules for one guest at a seat, as they were before positions, and the law that a table on which seated guests alone bet answers by them.
pub mod Money
pub mod Conditions
pub mod Effects
pub mod AsBefore
