-- What only contracts inside the crate and proofs cite.
pub mod Tables
pub mod Codes
