pub mod Extremes
pub mod SamplePlaces
pub mod Quotients
pub mod Stretches
pub mod Sums
pub mod Windows
