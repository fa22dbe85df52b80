pub mod Weighing
pub mod LeastWords
pub mod LeastFits
pub mod LeastJoins
pub mod CountJoins
pub mod Found
pub mod NodeAfterNode
