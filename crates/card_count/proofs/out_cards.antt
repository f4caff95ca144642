-- Laws of counted cards.
pub mod Counting
