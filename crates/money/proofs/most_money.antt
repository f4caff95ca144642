-- The law of the test that the calls which bring money onto the table cite.
pub mod Laws
