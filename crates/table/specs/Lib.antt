-- The state, its views, its money and its faces, and when it is broken.
pub mod Guest
pub mod Seat
pub mod Shoe
pub mod Table
pub mod Progress
pub mod Money
pub mod Faces
pub mod Broken
pub mod InSight
pub mod Shape
-- What only proofs and the contracts of private functions cite: nothing here has to be believed.
pub mod Aids
