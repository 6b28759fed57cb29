mod Lines
pub mod TrialNets
