pub mod PartDates
pub mod PartRules
