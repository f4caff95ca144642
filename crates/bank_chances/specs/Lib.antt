-- Request 2.10, in its order: the cards that are left, all ordered draws of them, where the bank's rule ends in a draw, and the eight counts.
pub mod CardsLeft
pub mod Draws
pub mod Ending
pub mod Chances
-- What the list of draws holds; and that the eight counts sum to the number of all draws.
pub mod EachDraw
pub mod AllDraws
-- A count's share.
pub mod Share
-- What only proofs and the contracts of private functions cite: nothing here has to be believed.
pub mod Aids
