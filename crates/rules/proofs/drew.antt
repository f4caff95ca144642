-- When a seat has drawn, doubled or split.
pub mod Laws
