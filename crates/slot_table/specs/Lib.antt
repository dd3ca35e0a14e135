pub mod LockedState
pub mod Conversions
pub mod Receipts
pub mod SlotCommands
pub mod Closing
pub mod Inner
