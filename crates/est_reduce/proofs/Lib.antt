pub mod Binders
pub mod Closing
pub mod Counting
pub mod Interfaces
pub mod Reduced
pub mod Lifts
pub mod Answering
pub mod Tests
