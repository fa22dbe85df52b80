pub mod Progress
pub mod Answers
pub mod Standing
pub mod PlanParts
pub mod Changes
pub mod Lists
pub mod Calls
