-- Laws that the proofs of the functions cite, and the laws of request 2.11.
pub mod FewNumbers
pub mod Counting
pub mod Turns
pub mod Given
pub mod Nets
pub mod Picking
pub mod Waiting
pub mod Complete
pub mod Order
