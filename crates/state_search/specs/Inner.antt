pub mod Back
pub mod Numbers
pub mod Places
pub mod Searching
