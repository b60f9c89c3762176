pub mod Multiples
pub mod Parts
pub mod KnownSteps
pub mod ApartLists
pub mod LastOnes
pub mod Places
mod Worked
