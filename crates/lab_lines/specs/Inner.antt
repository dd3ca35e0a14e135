pub mod InstantLines
pub mod LineParts
