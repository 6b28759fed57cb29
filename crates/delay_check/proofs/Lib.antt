mod DelayRows
mod Given
pub mod LastDelays
mod Passing
mod Texts
