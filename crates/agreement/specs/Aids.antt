-- How a table agrees with a history: what the induction of the theorem carries. Nothing here has to be believed.
pub mod Agrees
