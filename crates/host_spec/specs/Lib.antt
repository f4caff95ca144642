-- Request 2.13: guests who come and go. Cards and tallies, when they are broken, the two calls and what close adds to a tally, one step; then the history of cards, the tally that it works
-- out, and the claim.
pub mod Cards
pub mod Broken
pub mod Arrive
pub mod Leave
pub mod Close
pub mod Step
pub mod History
pub mod Claim
