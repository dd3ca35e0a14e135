pub mod Contract
pub mod Judging
pub mod Parts
pub mod Views
pub mod Inner
