pub mod OneOffered
pub mod Pauses
pub mod Restoring
pub mod Offers
pub mod Words
