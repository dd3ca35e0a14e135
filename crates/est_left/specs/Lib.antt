pub mod Inner
pub mod Orders
