pub mod Inner
pub mod Instants
pub mod Laws
pub mod OwnCells
pub mod Seen
