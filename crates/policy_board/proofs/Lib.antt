pub mod Beginnings
pub mod Adding
pub mod Rules
pub mod Publishing
pub mod Receipts
pub mod Reading
pub mod SharedBoards
