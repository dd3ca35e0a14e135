pub mod Members
pub mod Commands
pub mod Ordering
pub mod ReplyTokens
pub mod Pieces
