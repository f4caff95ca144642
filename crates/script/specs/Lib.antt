-- What a script writes: numbers, cards and lines.
pub mod Number
pub mod Cards
pub mod Named
pub mod Lines
-- Orders of cards.
pub mod Begun
