pub mod Places
pub mod Written
pub mod NextLine
pub mod Cutting
pub mod Turning
pub mod Running
