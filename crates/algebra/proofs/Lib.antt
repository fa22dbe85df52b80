pub mod Membership
pub mod Joins
pub mod Orders
pub mod Sums
pub mod Enumerates
pub mod Once
pub mod Exact
pub mod Results
