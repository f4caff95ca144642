-- What the library adds to the engine's definitions: a call by its numbers, and what is answered to numbers that are none.
pub mod Calls
pub mod Chances
pub mod File
