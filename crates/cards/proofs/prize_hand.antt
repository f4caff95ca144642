-- Laws about prize hands that the layers above cite.
pub mod PrizeTotal
