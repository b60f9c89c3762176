mod Answering
pub mod Asked
mod Begun
mod Calling
mod Closing
mod Collecting
mod Covered
pub mod Crossing
mod Entered
mod Failures
mod KeptQueries
pub mod Divided
mod Keeping
mod Limited
mod Lists
mod Logs
mod Looked
mod Machines
mod Numbers
mod Offering
mod OpenQueries
pub mod Outstanding
mod Planning
mod Progressing
mod Runs
mod Seated
mod Standing
mod Stepped
pub mod Stopped
mod Tenanted
mod Tries
