-- The calls' definitions stand in decisions_spec; this crate adds what its check of a decision in turn gives.
pub mod InTurn
