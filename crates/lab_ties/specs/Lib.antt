pub mod Places
pub mod Stuck
pub mod Ties
