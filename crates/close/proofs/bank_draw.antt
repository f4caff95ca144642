-- Laws of the bank's cards, for the loop that draws them.
pub mod Draws
