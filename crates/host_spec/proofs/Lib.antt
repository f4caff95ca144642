-- The laws of guest cards: their places, when they are sound, what a round adds to a tally, and the theorem over every list.
pub mod Places
pub mod Sound
pub mod Counting
pub mod Bounds
pub mod Steps
pub mod Theorem
