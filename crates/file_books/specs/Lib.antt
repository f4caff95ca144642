-- Request 2.9: a written session, read and played again.
pub mod Written
