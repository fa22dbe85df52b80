pub mod Samples
pub mod Table
pub mod Files
