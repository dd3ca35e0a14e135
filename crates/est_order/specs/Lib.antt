pub mod Inner
pub mod PlaceOrders
pub mod PlaceSets
pub mod RunRows
