mod Copied
pub mod Crossing
pub mod FirstLines
mod Fitting
mod Folds
mod GridPieces
pub mod KeySets
pub mod LegParts
pub mod Levels
pub mod LongestToken
pub mod MergeLaw
pub mod MergeQuery
mod MergedParts
pub mod OneAnswer
pub mod OnePlace
pub mod Places
pub mod PreorderSizes
pub mod SelectorLabels
pub mod ScannedTokens
mod ShardSteps
mod ShardedCells
mod ShardedSelectors
pub mod TimesRead
pub mod TokenForms
mod Worked
mod WorkedLogs
mod WorkedNames
mod WorkedMatchers
mod WorkedQueries
mod WorkedRefusals
mod WorkedTables
mod WorkedTexts
mod WorkedTokens
mod WorkedTyping
pub mod TreeCode
pub mod TreeOf
pub mod WithoutName
