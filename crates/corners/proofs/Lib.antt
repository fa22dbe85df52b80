pub mod RouteCosts
pub mod Supports
pub mod Listing
pub mod Passing
pub mod LeastOfCorners
pub mod OneList
