pub mod CanonicalTokens
pub mod CanonicalWritten
pub mod Quotes
pub mod Scans
pub mod Seen
pub mod Stages
