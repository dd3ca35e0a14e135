pub mod Inner
pub mod Machines
pub mod Saved
