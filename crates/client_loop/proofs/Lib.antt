pub mod LeavingLemmas
pub mod MappedStates
mod SharedLemmas
pub mod Sharing
