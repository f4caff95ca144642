-- What contracts of private functions name.
pub mod Picked
