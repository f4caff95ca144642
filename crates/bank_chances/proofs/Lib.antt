-- Laws of the count: sums by group, stand-ins, draws and their number, the recursion, its bounds; and the law of all draws.
pub mod Groups
pub mod StandIns
pub mod Draws
pub mod Recursion
pub mod Bounds
pub mod Eight
pub mod Faces
pub mod Steps
pub mod Accepted
pub mod AllDraws
pub mod EachDraw
pub mod Hundredths
