pub mod ObjectLaws
pub mod SetTables
pub mod Violations
