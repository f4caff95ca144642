-- Laws of the fields and of the rows.
pub mod Fields
pub mod Gather
pub mod InRows
pub mod FirstRow
