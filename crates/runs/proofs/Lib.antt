pub mod FirstLetters
pub mod Gathers
pub mod Rows
