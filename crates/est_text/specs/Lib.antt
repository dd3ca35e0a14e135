pub mod Bytes
pub mod Identifiers
pub mod Keywords
pub mod Lexing
pub mod Pieces
pub mod Places
pub mod TokenLists
