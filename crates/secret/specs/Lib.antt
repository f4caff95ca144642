-- The box's secret: the two lists of calls, the statement, and a list that meets its premises.
pub mod Secret
pub mod Example
