pub mod LatestReleases
pub mod InputAnswers
pub mod Asked
pub mod Alike
pub mod Divisions
pub mod LateFirings
pub mod EndlessTexts
pub mod Paces
pub mod SteadyRows
pub mod Lagged
pub mod TogetherRows
pub use Rattle.forever_laws.specs as forever_laws
pub use Rattle.endless_due.specs as endless_due
