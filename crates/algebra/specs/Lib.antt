pub mod Semirings
pub mod Lists
pub mod Values
pub mod Enumerated
pub mod Theorems
