pub mod CriticalParts
pub mod PartsTowards
pub mod Reached
pub mod PartsBetween
