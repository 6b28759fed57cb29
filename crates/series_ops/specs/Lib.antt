pub mod Cells
pub mod CoreSums
pub mod Gains
pub mod LeftPlans
pub mod ListFunctions
pub mod Pieces
pub mod Proved
pub mod ElementRefusals
pub mod Splits
pub mod SplitsAt
pub mod Strides
pub use Rattle.dioid.specs as dioid
pub use Rattle.series_laws.specs as series_laws
pub use Rattle.series_form.specs as series_form
