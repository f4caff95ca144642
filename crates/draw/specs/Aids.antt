-- What only proofs and the contracts of private functions cite: nothing here has to be believed.
pub mod Grown
pub mod Drawable
pub mod Splits
