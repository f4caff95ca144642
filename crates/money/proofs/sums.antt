-- Laws of the sums that the layers above cite, and the step of the pass over the seats.
pub mod Capping
pub mod Pass
