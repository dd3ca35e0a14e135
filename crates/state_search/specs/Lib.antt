pub mod Inner
pub mod Table
pub mod Words
