pub mod Bound
pub mod Cycle
pub mod CycleTexts
pub mod Size
pub mod Slack
pub mod SpecialCases
pub mod Trial
