-- The theorem of demand 3 and the laws beside it.
pub mod Replay
pub mod Claims
pub mod Steps
pub mod Theorem
pub mod Keeps
pub mod Opens
