-- Laws of bytes, of the calls of a block and of its conditions that the proofs of the code cite.
pub mod Bytes
pub mod Pieces
pub mod Conditions
