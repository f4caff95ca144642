-- What a close adds to the card of a place, and the walk over all of them.
pub mod Laws
