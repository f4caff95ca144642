-- What the functions of a hosted table give back (request 2.13), by the definitions of host_spec, and the law that arrivals and leavings leave the table.
pub mod Outcome
pub mod Given
pub mod Shown
pub mod OnlyCards
pub mod Aids
