mod PathPotentials
mod PathSums
pub mod Paces
mod SizeTexts
