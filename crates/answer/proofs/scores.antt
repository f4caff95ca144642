-- Laws of scores: one, two, and one behind others.
pub mod Laws
