-- What calls share: the conditions that several ask, and what a call and a step give back.
pub mod Conditions
pub mod Checked
pub mod Outcome
pub mod Moved
-- What is called aloud.
pub mod Scores
pub mod Reply
