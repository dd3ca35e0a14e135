pub mod Tree
pub mod Grammar
pub mod Faults
pub mod ParseFaults
pub mod Views
pub mod Inner
