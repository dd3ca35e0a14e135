pub mod Frames
pub mod Machine
pub mod Modules
pub mod Parsing
pub mod Parts
