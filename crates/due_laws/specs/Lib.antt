pub mod MeetingDueDates
pub mod LatestDates
pub mod LatestInputs
