pub mod PeriodicDates
pub mod Equations
pub mod GainColumns
pub mod RepeatNumbers
pub mod LinearSystem
pub use Rattle.series_ops.specs.dioid as dioid
pub use Rattle.dioid_matrix.specs as dioid_matrix
pub use Rattle.series_ops.specs.series_laws as series_laws
pub use Rattle.series_ops.specs.series_form as series_form
pub use Rattle.series_ops.specs as series_ops
pub use Rattle.settled_laws.specs.teg_net as teg_net
pub use Rattle.settled_laws.specs.teg_model as teg_model
pub use Rattle.settled_laws.specs as settled_laws
