-- Request 2.12: the dealer's screen. Which touch fields are lit, the rows of hands, and laws of both.
pub mod Lights
pub mod Rows
pub mod Screen
pub mod Laws
pub mod Aids
