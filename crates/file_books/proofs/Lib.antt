-- Accepted calls can be written, what a file keeps of them plays as they did, and the theorem.
pub mod Playing
pub mod Theorem
