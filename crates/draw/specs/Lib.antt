-- The calls' definitions stand in decisions_spec; this crate adds only what its own functions share.
pub mod Told
pub mod Aids
