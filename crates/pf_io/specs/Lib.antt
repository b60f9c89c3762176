pub mod Errors
pub mod InMemory
pub mod Outside
