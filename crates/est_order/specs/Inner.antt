pub mod Levels
pub mod Reached
