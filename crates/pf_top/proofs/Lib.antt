pub mod Batches
pub mod OutputLaws
pub mod Printed
pub mod RangeSteps
pub mod Seeds
pub mod SessionLaws
pub mod SessionLines
pub mod SessionScripts
mod Spared
pub mod WordLaws
mod WorkedReads
mod WorkedWords
