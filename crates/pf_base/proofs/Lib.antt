mod DigitCounts
mod Numbers
mod Written
mod Worked
mod EndZeros
pub mod GridTimes
mod WorkedGrids
pub mod LabelFacts
pub mod LabelPacking
pub mod LabelSteps
pub mod LeastRepeated
pub mod Put
pub mod Repeats
pub mod ShardSteps
pub mod Sorted
pub mod Sorting
mod WorkedLabels
pub mod StableSorting
pub mod Digits
mod Sizes
pub mod Readings
mod ReadsExactly
pub mod ReadBack
pub mod Letters
pub mod Durations
