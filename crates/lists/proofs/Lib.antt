-- Laws about lists and numbers that the layers above cite.
pub mod Sums
pub mod Tests
pub mod Takes
pub mod Picks
pub mod Below
pub mod Places
pub mod Differences
pub mod Inserts
pub mod Parts
pub mod Counts
pub mod Flats
pub mod Stores
pub mod Numbered
pub mod Chains
