-- How a call's code meets its definition: refused, or accepted with its effect.
pub mod Laws
