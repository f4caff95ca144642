-- What an accepted draw or double gives its effect, and that effect from what the code has read.
pub mod Laws
