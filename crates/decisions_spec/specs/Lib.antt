-- Insurance and the seven decisions of document 01, "The seventeen calls", the guest: for each call its conditions, in the order of their numbers, and
-- its effect. A call is refused by the first condition that holds and leaves the table as it was; else the table after it is its effect.
-- What they share.
pub mod Place
pub mod Turn
pub mod Card
-- The calls.
pub mod Insure
pub mod Surrender
pub mod Stand
pub mod Draw
pub mod Double
pub mod Split
pub mod Even
pub mod Five
-- That an accepted decision is one that the rules permit.
pub mod Permitted
