pub mod CornerLists
pub mod Passing
pub mod LeastRuns
