-- What the deal's code cites: its conditions from the tests, what an accepted deal gives, and the effect from its parts.
pub mod Asked
pub mod Room
pub mod Effect
