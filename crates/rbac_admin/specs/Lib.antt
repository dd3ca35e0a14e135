pub mod Refusals
pub mod Conditions
pub mod PolicyStep
pub mod Room
pub mod AdminSteps
pub mod PolicyLists
