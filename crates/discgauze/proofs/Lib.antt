-- What the proofs of the code cite: a kind that is none.
pub mod Unknown
