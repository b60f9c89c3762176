pub mod Ends
pub mod Extrapolation
pub mod Steps
pub mod Values
pub mod Windows
