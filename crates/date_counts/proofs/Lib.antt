pub mod Counting
pub mod Steady
pub mod LiveCounters
