pub mod GreatestTimes
pub mod Stability
pub mod VaryingHolds
pub mod MovedReleases
pub mod GivenInputs
pub mod LongerJobs
pub mod Clocks
