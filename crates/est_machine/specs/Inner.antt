pub mod Pauses
pub mod Words
