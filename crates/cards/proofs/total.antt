-- Laws about totals that the layers above cite.
pub mod Bounds
