pub mod Deciding
pub mod CellSets
mod Covering
mod Extending
pub mod Ranges
pub mod Reaching
mod Finding
mod KernelOwners
mod OwnerCells
mod OwnerCounts
pub mod OwnerLists
pub mod OwnerValues
pub mod EmissionLists
