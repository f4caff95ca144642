-- Why a round ends: every accepted call draws a card, ends a hand or insures a guest.
pub mod Counted
pub mod Potential
pub mod Steps
pub mod Theorem
pub mod GoesOn
