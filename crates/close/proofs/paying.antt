-- What goes back at close: how much at most.
pub mod Back
