-- What only proofs and the contracts of functions for this crate and those above cite: nothing here has to be believed.
pub mod Counters
pub mod Counted
pub mod Left
