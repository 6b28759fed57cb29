pub mod ValueRounds
pub mod TracedPaths
pub mod Surpluses
pub mod Sizings
pub mod EnoughPotentials
pub mod SizingTexts
