-- Document 01, "The history", in its own order: cards, rounds and hands, money. It sees no table and no effect of a call.
pub mod Entry
pub mod Rounds
pub mod Cards
pub mod Hands
pub mod Money
-- What only proofs and the contracts of private functions cite: nothing here has to be believed.
pub mod Aids
