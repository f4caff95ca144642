-- Laws of cards that are counted beside those that are left.
pub mod Beside
