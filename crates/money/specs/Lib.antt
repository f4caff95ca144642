-- The sums over all seats, and how much they can be.
pub mod Sums
pub mod SumsFit
