-- What only proofs and the contracts of private functions cite: nothing here has to be believed.
pub mod Surveyed
pub mod OfPass
pub mod AtRest
pub mod LookedAt
