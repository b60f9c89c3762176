pub mod Asking
pub mod Counted
pub mod Errors
pub mod Faults
pub mod Rules
