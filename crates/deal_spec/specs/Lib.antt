-- Document 01, "The seventeen calls", deal: how many cards it burns, its passes over the seats, its numbers and the table after it.
pub mod Burn
pub mod Pass
pub mod Deal
