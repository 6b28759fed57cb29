pub mod PathPotentials
pub mod PathSums
pub mod ShownCycles
pub mod ShownSizes
pub mod SizeReading
