mod Rows
pub mod Places
pub mod Running
pub mod Deciding
pub mod Stepping
mod Entries
pub mod Desks
pub mod Unchanged
pub mod Settling
pub mod OneNaming
pub mod OneSlotStep
pub mod Legality
mod EndedSessions
