-- Laws about hands that the layers above cite.
pub mod WithCard
