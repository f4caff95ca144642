-- The laws of the session file, from numbers up to the theorems.
pub mod Alls
pub mod Pieces
pub mod Numbers
pub mod Sealing
pub mod TableBlocks
pub mod Codes
pub mod CallBlocks
pub mod Files
pub mod WholeFiles
pub mod OneFile
pub mod Altered
pub mod Readers
pub mod Writers
pub mod Laws
