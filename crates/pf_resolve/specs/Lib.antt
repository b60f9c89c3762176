pub mod Bounds
pub mod Ends
pub mod Forms
pub mod Reading
pub mod Settled
pub mod Steady
