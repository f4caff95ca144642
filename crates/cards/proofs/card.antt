-- Laws about cards that the layers above cite.
pub mod PointsLaws
