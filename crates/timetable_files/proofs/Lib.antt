pub mod EntryRules
pub mod Splitting
pub mod Refused
