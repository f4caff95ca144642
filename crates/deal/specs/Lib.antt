-- The two passes of a deal as one rule, for the contracts of private functions.
pub mod Aids
