-- Document 01, "Cards and totals", in its order. Definitions are over lists of cards; `Hand` says which list a hand of the code holds.
pub mod Card
pub mod Points
pub mod Hand
-- Low sum, total and bust; the total as it is called aloud; how many cards a hand can come to.
pub mod Total
pub mod Score
pub mod Length
-- Hands that the rules know by their cards.
pub mod Natural
pub mod Pair
pub mod PrizeHand
