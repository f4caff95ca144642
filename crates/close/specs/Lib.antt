-- What a close gives back.
pub mod Settled
-- What the parts of an accepted close know, and a seat at the end of a round, for the contracts of private functions.
pub mod Aids
