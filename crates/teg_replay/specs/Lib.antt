pub mod RefusedFirings
pub mod Firings
pub mod Longest
pub mod Games
pub mod RunsAndLeastDates
pub mod Replays
pub mod Waits
pub use Rattle.run_laws.specs as run_laws
