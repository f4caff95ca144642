-- How a call's outcome becomes the reply of a step: plain, refused, or accepted with what it shows.
pub mod Laws
