mod Leasts
mod Exact
pub mod Going
mod Ending
mod Risings
mod Standing
mod Parts
mod Sameness
