pub mod Alone
pub mod Transfers
pub mod WalkTimes
pub mod Reached
pub use Rattle.dioid.specs as dioid
pub use Rattle.periodic_laws.specs.dioid_matrix as dioid_matrix
pub use Rattle.periodic_laws.specs.series_laws as series_laws
pub use Rattle.periodic_laws.specs.series_form as series_form
pub use Rattle.periodic_laws.specs.series_ops as series_ops
pub use Rattle.teg_net.specs as teg_net
pub use Rattle.teg_check.specs as teg_check
pub use Rattle.periodic_laws.specs.teg_model as teg_model
pub use Rattle.periodic_laws.specs.settled_laws as settled_laws
pub use Rattle.periodic_laws.specs as periodic_laws
pub use Rattle.settled_forms.specs as settled_forms
