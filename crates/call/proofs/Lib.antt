-- Laws of refusals that every call cites, and the names of pay lines.
pub mod Refusals
pub mod PayLine
