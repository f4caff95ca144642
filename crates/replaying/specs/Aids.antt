-- What only contracts inside the crate and proofs cite.
pub mod Turns
