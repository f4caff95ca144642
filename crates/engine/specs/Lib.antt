-- One step over all calls, runs of lists of calls, and the claims about the marked session and about a round that takes the whole cover.
pub mod Scores
pub mod Step
pub mod Run
pub mod LowestFirst
pub mod Session
pub mod FullCover
pub mod Aids
