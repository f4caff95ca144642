-- What a leaving asks before it looks for the stake.
pub mod Laws
