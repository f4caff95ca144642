-- House options, given at opening: the device, the ranges with the test that decides them, and the amounts that they permit a guest.
pub mod Device
-- Who decides for a seat of several guests.
pub mod Decider
pub mod Ranges
pub mod Permitted
-- What only proofs and the contracts of private functions cite: nothing here has to be believed.
pub mod Aids
