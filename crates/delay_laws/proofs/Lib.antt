pub mod Plans
pub mod Releases
pub mod Dated
pub mod Spare
pub mod Steps
pub mod Passing
pub mod PassedOn
pub mod Keeping
pub mod TightCircuits
mod DistinctDelays
pub mod ReleaseLists
pub mod Derived
pub mod DerivedDates
pub mod DerivedForms
pub mod Together
pub mod OneForm
