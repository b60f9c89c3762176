mod CacheSessions
pub mod Ending
mod Examples
pub mod Found
pub mod FrozenSteps
pub mod Going
pub mod Growing
pub mod Histories
mod Named
pub mod Opened
pub mod Owning
mod Pages
mod Sessions
pub mod Tallying
pub mod Whole
mod WorkedCaches
mod WorkedClients
mod WorkedFrozen
mod WorkedRefusals
mod WorkedReplies
mod WorkedReports
mod WorkedScripts
mod WorkedSummaries
mod WorkedTenants
mod WorkedWeaves
