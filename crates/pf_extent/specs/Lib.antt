pub mod Uses
pub mod Steps
pub mod Combining
pub mod Done
