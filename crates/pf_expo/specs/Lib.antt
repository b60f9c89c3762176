pub mod Answers
pub mod Readings
pub mod Scans
pub mod Series
