-- The array of a shoe before any card is in it, for the contract of a private function.
pub mod Aids
