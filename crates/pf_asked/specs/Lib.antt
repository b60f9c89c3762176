pub mod Codes
pub mod Lawful
