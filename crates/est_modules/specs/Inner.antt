pub mod BoundNames
pub mod Walks
