pub mod WorkingBack
pub mod Tracing
pub mod Searching
