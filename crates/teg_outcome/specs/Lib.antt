pub mod CommandLimits
pub mod CommandOutcomes
