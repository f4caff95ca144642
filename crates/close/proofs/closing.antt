-- Laws of the cards that close draws.
pub mod Clears
