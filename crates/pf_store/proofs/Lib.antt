pub mod ApartRows
pub mod Deletions
pub mod Holding
pub mod Judging
pub mod Logs
pub mod Snapshots
pub mod Numbers
mod Giving
