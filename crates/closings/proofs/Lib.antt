pub mod ClosedRoutes
