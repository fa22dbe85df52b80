pub mod Reports
pub mod Planned
