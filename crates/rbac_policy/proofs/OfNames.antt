pub mod Ascii
pub mod Filled
pub mod Equality
pub mod ObjectTexts
