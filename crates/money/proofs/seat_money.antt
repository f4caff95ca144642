-- Laws of a seat's hands that the layers above cite.
pub mod Hands
