pub mod Closure
pub mod FormFacts
pub mod SeriesForms
pub mod Needs
pub mod Periodic
pub mod Pointwise
pub mod Product
pub mod ProductNeeds
pub mod Residual
pub mod StarOf
pub mod SeriesStars
pub use Rattle.dioid.specs as dioid
