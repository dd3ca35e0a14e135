pub mod Sets
pub mod Edges
pub mod Inner
