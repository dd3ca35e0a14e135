pub mod BackLemmas
pub mod Growth
pub mod Nodes
pub mod PlaceLemmas
pub mod TreeLemmas
pub mod Ways
