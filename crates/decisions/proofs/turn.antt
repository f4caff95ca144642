-- What the conditions in turn, and an accepted decision, give to the code of a decision.
pub mod Laws
