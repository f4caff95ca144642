-- Laws of valid orders.
pub mod Orders
