pub mod Answers
pub mod Keeps
pub mod Settling
pub mod Spans
pub mod Works
