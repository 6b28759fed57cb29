pub mod LatestDates
pub mod LatestInputs
