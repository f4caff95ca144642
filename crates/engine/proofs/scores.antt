-- What the scores of a step share.
pub mod Laws
