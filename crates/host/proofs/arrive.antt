-- What an arrival asks first.
pub mod Laws
