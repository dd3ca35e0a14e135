pub mod Granting
pub mod Revoking
