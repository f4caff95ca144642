-- What an accepted split gives its effect, four places written out, and the effect step by step.
pub mod Accepted
pub mod Four
pub mod Effect
