pub mod LevelLemmas
pub mod OrderLemmas
pub mod OrderPlaces
pub mod SearchLemmas
