pub mod CommandNames
pub mod Requests
pub mod UsualLimits
