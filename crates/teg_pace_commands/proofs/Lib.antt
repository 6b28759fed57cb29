pub mod BestRatios
pub mod CycleTold
pub mod Rounds
pub mod RoundsAfter
pub mod TrialLaws
