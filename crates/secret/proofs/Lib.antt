-- The box's secret, proved, and a list that meets its premises.
-- Orders and tables that differ in cards that nobody sees.
pub mod Exchange
pub mod Veil
-- One call on two such tables.
pub mod Plain
pub mod Accepted
pub mod Steps
pub mod Numbers
pub mod Effects
pub mod Alike
pub mod Deal
pub mod HiddenCards
pub mod Kept
-- Lists of calls.
pub mod Plays
pub mod Before
pub mod Behind
pub mod Dealt
pub mod Loaded
pub mod Theorem
pub mod Example
