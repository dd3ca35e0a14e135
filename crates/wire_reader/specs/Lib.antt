pub mod Lines
pub mod Meters
pub mod Readers
pub mod Serving
pub mod Replies
pub mod Writing
pub mod Inner
