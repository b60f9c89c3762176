pub mod Covered
pub mod Entries
pub mod Filters
pub mod Listed
pub mod Members
pub mod Ordered
pub mod Sieved
pub mod Valued
