pub mod SetLemmas
pub mod CountLemmas
pub mod ChainLemmas
pub mod EdgeLemmas
pub mod Finding
