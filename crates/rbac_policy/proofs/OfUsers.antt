pub mod Adding
pub mod Assigning
pub mod Deassigning
