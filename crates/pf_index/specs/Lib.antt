pub mod Listing
pub mod Sieving
