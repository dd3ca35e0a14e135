pub mod Answers
pub mod Lines
pub mod Proving
pub mod Runs
pub mod Statuses
pub mod Walking
