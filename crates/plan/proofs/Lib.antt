pub mod Standing
pub mod NextNode
pub mod Questions
pub mod RoutesTo
pub mod PartOfSteps
pub mod CallByCall
