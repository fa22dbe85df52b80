pub mod Areas
pub mod Laid
pub mod Openness
pub mod Mildness
pub mod Raised
pub mod Numbered
pub mod Walks
