-- Laws about a seat's hands that the functions here and the layers above cite.
pub mod Places
