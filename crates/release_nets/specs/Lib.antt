pub mod PlannedNets
pub mod DelaysByNumber
pub mod ReleaseNetsBuilt
