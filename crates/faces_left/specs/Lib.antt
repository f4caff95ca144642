-- Request 2.10: the faces left of a table, and that they tell nothing but what is seen.
pub mod FacesLeft
pub mod Unseen
-- What only proofs and the contracts of private functions cite: nothing here has to be believed.
pub mod Aids
