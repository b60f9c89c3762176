pub mod Crossing
mod Searches
pub mod Tables
mod Worked
