pub mod ShownDelays
pub mod DelayRows
