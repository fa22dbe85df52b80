pub mod Answering
pub mod Judging
pub mod Written
pub mod Entries
