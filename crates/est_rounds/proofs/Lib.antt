pub mod Known
pub mod Reacting
pub mod Resuming
