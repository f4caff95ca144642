-- Laws of counters.
pub mod Counts
