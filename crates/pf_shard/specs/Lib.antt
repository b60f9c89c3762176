pub mod Bound
pub mod Groups
pub mod JoinedGroups
pub mod Lawful
pub mod LegParts
pub mod Numbers
pub mod Parts
