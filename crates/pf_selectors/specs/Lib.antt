pub mod Grouping
pub mod Passing
pub mod SeriesColumns
pub mod Subqueries
pub mod Times
