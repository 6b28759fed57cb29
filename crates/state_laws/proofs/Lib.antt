pub mod LeastGoesOn
pub mod LeftRanks
pub mod LeftTokens
pub mod LegalInTime
pub mod NetGoesOn
