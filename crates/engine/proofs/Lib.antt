-- The marked session and the round that takes the whole cover over the definitions, and what a broken table answers.
pub mod Session
pub mod FullCover
pub mod BrokenTable
pub mod LowestFirst
-- What a step and its parts share.
pub mod ShownDeal
pub mod Moved
