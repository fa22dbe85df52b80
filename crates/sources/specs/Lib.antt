pub mod Entering
pub mod Answers
pub mod Listed
pub mod Tables
pub mod Filling
pub mod Rules
