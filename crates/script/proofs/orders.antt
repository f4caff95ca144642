-- Laws of orders.
pub mod Orders
