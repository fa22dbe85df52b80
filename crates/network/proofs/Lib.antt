pub mod PassedOn
pub mod Products
pub mod SizeLists
pub mod Lawful
pub mod Routes
