pub mod Format
pub mod Takeoff
pub mod Refusals
pub mod Answers
pub mod Inner
