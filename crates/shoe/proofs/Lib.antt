-- Laws of the cards left and of the discards, as the loops in the calls cite them.
pub mod Left
pub mod Discards
