pub mod Closings
pub mod ClosingRules
pub mod ClosedRoutes
pub mod Shutting
