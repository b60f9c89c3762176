pub mod Columns
pub mod Groups
pub mod Joins
pub mod Partials
pub mod Ranks
pub mod Runs
pub mod Steps
