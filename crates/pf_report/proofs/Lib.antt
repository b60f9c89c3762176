pub mod BodyLines
mod Copies
pub mod ErrorTokens
pub mod Joined
pub mod LabelTokens
pub mod Lines
pub mod Retold
pub mod ToldBodies
pub mod ToldEntries
pub mod ToldReplies
