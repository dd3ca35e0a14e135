pub mod Rules
pub mod Deciding
pub mod Rows
