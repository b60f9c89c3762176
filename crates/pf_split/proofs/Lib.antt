mod Intervals
pub mod Runs
mod Worked
