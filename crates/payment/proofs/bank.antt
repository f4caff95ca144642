-- Laws of the bank's draw that the layers above cite.
pub mod Draws
