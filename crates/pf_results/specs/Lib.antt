pub mod Runs
pub mod Serving
pub mod Keeping
pub mod Truth
pub mod Entries
pub mod Woven
pub mod Pieces
