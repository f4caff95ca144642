-- Laws of the seats at the end of a round.
pub mod Laws
