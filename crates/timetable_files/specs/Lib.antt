pub mod Entries
pub mod EntryRules
pub mod TimetableFiles
pub mod TableFiles
pub mod Departures
