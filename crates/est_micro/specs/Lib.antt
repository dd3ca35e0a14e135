pub mod Sweeps
pub mod Laws
pub mod Parts
pub mod Runs
pub mod Engine
pub mod Waiting
pub mod Unsettled
pub mod Inner
