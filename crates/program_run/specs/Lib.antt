pub mod Faults
pub mod Reports
pub mod Serving
pub mod Runs
