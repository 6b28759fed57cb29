pub mod SeriesLimits
pub mod SeriesAnswers
pub mod NumberBounds
pub mod Leads
pub mod Shapes
pub mod PeriodicLists
pub use Rattle.dioid.specs as dioid
