pub mod Heads
pub mod Sameness
