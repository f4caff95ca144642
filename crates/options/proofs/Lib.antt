-- Laws about options that the layers above cite.
pub mod Facts
