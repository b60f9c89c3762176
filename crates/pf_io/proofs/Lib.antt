pub mod Growing
mod Sureness
