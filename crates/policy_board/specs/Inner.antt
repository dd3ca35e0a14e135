pub mod Book
pub mod Steps
pub mod Publishing
pub mod Keeping
pub mod Reading
