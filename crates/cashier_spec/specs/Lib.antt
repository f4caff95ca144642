-- The definitions of the opening and of the calls between rounds: the house's fill, credit and load, the cashier's buy and cash, the guest's stake and side
-- stakes. For each a list of conditions with their numbers, in document 01's order, and the effect of an accepted call on the table.
pub mod Opening
pub mod Fill
pub mod Credit
pub mod Buy
pub mod Cash
pub mod Load
pub mod Stake
pub mod Side
