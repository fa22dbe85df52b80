pub mod Leasts
pub mod Counts
pub mod Finishing
