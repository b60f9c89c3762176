pub mod Asked
pub mod BindSteps
pub mod CountedNodes
pub mod Exact
pub mod Faults
pub mod GridSteps
mod LawfulKinds
pub mod LawfulQueries
mod LawfulTexts
pub mod Names
pub mod NodeFaults
pub mod Operands
pub mod OverGrids
pub mod Utf8
pub mod Variants
