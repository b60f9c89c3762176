pub mod Keys
pub mod Standing
pub mod Verdicts
