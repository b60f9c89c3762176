pub mod Ahead
mod Chains
mod Lists
pub mod Rings
mod Worked
