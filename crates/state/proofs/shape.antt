-- What holds of each number below three or four, as the walk over a seat cites it.
pub mod Shapes
