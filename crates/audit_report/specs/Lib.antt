pub mod Replaying
pub mod Findings
pub mod ReportText
pub mod Inner
