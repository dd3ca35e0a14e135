pub mod Answering
pub mod Members
pub mod FirstBroken
pub mod OffersKeep
