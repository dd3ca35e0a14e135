pub mod BookPrefixes
pub mod SeatState
pub mod Receipts
pub mod Rule
pub mod PolicyCommands
pub mod Reads
pub mod Inner
