pub mod Reading
pub mod Adding
