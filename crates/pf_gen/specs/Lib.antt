pub mod Draws
pub mod Sessions
