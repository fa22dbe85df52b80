pub mod Cells
pub mod Grids
pub mod Crossings
pub mod GridRules
pub mod Laying
pub mod Walks
