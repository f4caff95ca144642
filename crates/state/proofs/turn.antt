-- The hands of the seats, and what the seat that the walk over them finds says of whether some hand waits.
pub mod Hands
