pub mod Learning
pub mod Steps
