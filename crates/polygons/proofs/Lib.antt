pub mod Ways
pub mod Reading
pub mod Unions
pub mod Summation
pub mod Asking
pub mod Wrapping
pub mod Comparing
