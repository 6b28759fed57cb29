pub mod ShownForms
pub mod LimitRefusals
pub mod InitialReleases
pub mod ComparedRows
pub mod Prefixes
pub mod Struck
pub mod Asked
pub mod Witnesses
pub mod ShortestForms
pub mod Copies
pub mod Alone
pub mod LeastDates
pub mod Steps
pub mod SlopesOfNets
pub mod SpreadForms
pub mod WalksFound
pub use Rattle.dioid.specs as dioid
pub use Rattle.periodic_laws.specs.dioid_matrix as dioid_matrix
pub use Rattle.periodic_laws.specs.series_laws as series_laws
pub use Rattle.periodic_laws.specs.series_form as series_form
pub use Rattle.periodic_laws.specs.series_ops as series_ops
pub use Rattle.teg_net.specs as teg_net
pub use Rattle.teg_check.specs as teg_check
pub use Rattle.slope_laws.specs.teg_loops as teg_loops
pub use Rattle.periodic_laws.specs.teg_model as teg_model
pub use Rattle.periodic_laws.specs.settled_laws as settled_laws
pub use Rattle.periodic_laws.specs as periodic_laws
pub use Rattle.date_rows.specs as date_rows
pub use Rattle.settled_forms.specs as settled_forms
pub use Rattle.walk_times.specs as walk_times
pub use Rattle.list_spans.specs as list_spans
