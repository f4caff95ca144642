-- The law that the cover is enough, which the layers above cite.
pub mod Bounds
