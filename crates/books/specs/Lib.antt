-- The statement of demand 3, and the laws beside it.
pub mod Books
pub mod Laws
