pub mod Separating
pub mod Separated
pub mod Counted
pub mod Violating
pub mod Prospects
pub mod LoggingIn
pub mod ActivatingRole
