-- Laws of bytes laid into a block, and of one more call, that the proofs of the code cite.
pub mod LittleEndian
pub mod Fills
pub mod Adds
