-- Laws of the first cards and of the odds.
pub mod Laws
