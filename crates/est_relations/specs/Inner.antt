pub mod Names
pub mod Violations
