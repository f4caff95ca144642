-- Document 01, "Payment", in its order: what calls and history share about money.
-- How the bank's cards stand.
pub mod Bank
-- What follows from a stake: a hand's wager, and its prize.
pub mod Wager
pub mod Prize
-- Pay of a hand and of an insurance.
pub mod Pay
pub mod HandPay
pub mod Insurance
-- Pay of a side stake.
pub mod SidePay
-- What a guest has on the layout, and all that is paid for it at close.
pub mod Bets
pub mod Pays
-- The cover that the tray must hold.
pub mod Cover
-- Requests 2.2 and 2.6: the cover is enough and cannot be smaller.
pub mod CoverFits
-- The rehearsal hands that are proved together as one table.
pub mod RehearsalHands
