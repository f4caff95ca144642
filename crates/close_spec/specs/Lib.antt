-- Document 01, "The seventeen calls" and "Payment": the two calls that end a round. Close with the bank's cards and the pay lines, each exactly
-- once and from the left; void.
pub mod BankDraw
pub mod PayLines
pub mod EachOnce
pub mod InOrder
pub mod Close
pub mod Void
