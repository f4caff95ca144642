-- Laws that several functions of the crate cite.
pub mod Outcomes
pub mod Fits
pub mod Gains
pub mod Nets
pub mod OnlyCards
pub mod Replies
