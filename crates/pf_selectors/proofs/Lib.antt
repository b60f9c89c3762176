pub mod AcceptedSeries
mod LastHeld
mod MomentErrors
mod MomentSamples
mod NumberedSeries
mod OneLabel
pub mod PassingSeries
mod Places
mod RangeCells
mod RankedSeries
mod ReadCells
mod RunValues
mod SeriesOrder
mod SetRows
mod StepMultiples
pub mod StepTimes
mod SubqueryCells
mod TimedCells
mod WindowCells
mod WindowFilters
