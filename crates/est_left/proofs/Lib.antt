pub mod Alike
pub mod Listed
pub mod Sameness
pub mod Sizes
