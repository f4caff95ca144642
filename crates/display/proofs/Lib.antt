-- The hidden card is in nothing that a display reads.
pub mod InSight
