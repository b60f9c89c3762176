pub mod Buckets
pub mod Plans
pub mod Ranks
