-- Request 2.9: what playing a file gives.
pub mod Playing
pub mod Aids
