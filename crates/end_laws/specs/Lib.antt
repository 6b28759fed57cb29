pub mod Ends
pub mod Latest
pub use Rattle.walk_times.specs as walk_times
pub use Rattle.own_period_laws.specs as own_period_laws
