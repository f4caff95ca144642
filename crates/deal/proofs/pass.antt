-- The step of a pass over the seats, for its loop.
pub mod Next
