pub mod NeverStops
pub mod OneCheapest
pub mod AtNode
pub mod Reports
pub mod OneNumber
pub mod Records
