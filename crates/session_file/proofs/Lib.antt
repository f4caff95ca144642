-- Laws of blocks and of places that the proofs of the code cite.
pub mod Blocks
pub mod Places
