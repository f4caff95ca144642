-- How the code of a call of one seat meets its definition: refused, or accepted with its effect.
pub mod Laws
