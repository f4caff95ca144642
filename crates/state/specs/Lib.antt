-- Whose turn it is at a table.
pub mod Turn
