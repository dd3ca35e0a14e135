pub mod Adding
pub mod Extending
pub mod Finding
