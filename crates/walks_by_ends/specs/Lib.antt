pub mod EndForms
pub mod InputForms
pub mod LatestTimes
pub use Rattle.teg_settle.specs as teg_settle
pub use Rattle.end_laws.specs as end_laws
