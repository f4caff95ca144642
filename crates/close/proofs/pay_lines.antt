-- Laws of the pay lines that the passes cite.
pub mod Pays
pub mod Lines
pub mod Few
