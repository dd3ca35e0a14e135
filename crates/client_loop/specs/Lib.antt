pub mod Asking
pub mod Logins
pub mod LineSteps
pub mod Serving
pub mod Connections
pub mod SharedAnswers
pub mod Workers
pub mod Inner
