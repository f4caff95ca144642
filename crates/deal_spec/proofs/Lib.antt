-- Deal keeps a table good: sound, and in agreement with the history. The bank's cards, what an accepted deal finds, its passes, a seat after both, and the whole call.
pub mod DealtBank
pub mod DealAccepted
pub mod Pass
pub mod DealtSeat
pub mod DealSound
pub mod Deal
