-- Laws of close as a whole: its numbers from the code's tests, its effect from the parts, a seat's first cards as the code counts them, and nets in 64 bits. The laws of a part stand in
-- the folder of its module.
pub mod Effect
pub mod Numbers
pub mod FirstCards
pub mod Casts
