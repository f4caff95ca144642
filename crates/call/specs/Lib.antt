-- What a call is, taken apart once, and how it is refused.
pub mod Call
pub mod Refusal
pub mod PayLine
pub mod Answer
