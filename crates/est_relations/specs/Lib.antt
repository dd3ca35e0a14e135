pub mod Inner
pub mod Keeping
pub mod Offers
pub mod Refusals
