pub mod AtTarget
pub mod OneByOne
pub mod Whole
