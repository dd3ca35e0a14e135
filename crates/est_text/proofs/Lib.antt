pub mod Ascii
pub mod Filled
mod Fronts
pub mod Heads
mod OneCut
mod Runs
mod Spans
