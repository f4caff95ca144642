-- Request 2.11: every way to play one seat. What a lawful list of decisions is, their list in order, the sum of one, when there is no count, and the laws that tie the list to what is lawful.
pub mod Decisions
pub mod Lawful
pub mod Ways
pub mod Sum
pub mod Number
pub mod Laws
pub mod Aids
