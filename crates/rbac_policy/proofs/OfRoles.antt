pub mod Naming
pub mod Deleting
pub mod Inheriting
pub mod Below
pub mod Order
pub mod Listed
