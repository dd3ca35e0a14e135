pub mod Reading
pub mod ReadingOrder
pub mod ReadingRoles
pub mod ReadingSets
