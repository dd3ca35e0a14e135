pub mod Slots
pub mod Mapping
pub mod Room
pub mod Least
