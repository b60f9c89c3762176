pub mod Commands
pub mod Correct
pub mod Outputs
pub mod Pages
pub mod Refusals
pub mod Seen
pub mod WordSteps
pub mod Words
