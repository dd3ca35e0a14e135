pub mod ToldCalls
pub mod Order
pub mod OneList
pub mod Mismatches
pub mod Once
pub mod Inner
