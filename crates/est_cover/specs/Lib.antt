pub mod Inner
pub mod InputSets
