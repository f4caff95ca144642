-- Laws of the side stakes of a seat, and of its guests' tests and sums together.
pub mod Laws
pub mod Guests
