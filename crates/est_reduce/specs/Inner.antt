pub mod Exits
pub mod Sizes
