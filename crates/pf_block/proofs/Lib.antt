pub mod Searches
pub mod PostingLists
pub mod Ids
pub mod Keeping
pub mod LabelOrdering
mod Merging
mod Numbering
mod Handing
mod Runs
mod Parts
mod Pairing
mod SortedEntries
mod Canonical
mod Taking
mod MergedSamples
mod Stretches
mod Series
mod Reading
mod Stacking
mod Layering
mod LentWindows
pub mod Walks
mod Totals
mod Joining
mod Sorts
pub mod OrderedIds
mod Interleaved
mod Worked
