pub mod GroupElements
pub mod KnownGroups
pub mod Planned
pub mod RankOrder
