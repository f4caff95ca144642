-- What a sound table gives to a void.
pub mod Back
