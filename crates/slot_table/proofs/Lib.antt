pub mod Legality
pub mod Ending
pub mod Handing
