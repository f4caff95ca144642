-- Laws of scripts.
pub mod Numbers
pub mod Cards
pub mod Lines
