pub mod Planned
pub mod Replayed
