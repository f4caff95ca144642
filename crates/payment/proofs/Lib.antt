-- The theorems of the rehearsal hands and of the cover, and laws of wager, prize and pays that the layers above cite.
pub mod Theorem
pub mod CoverFits
pub mod Bounds
pub mod Pays
