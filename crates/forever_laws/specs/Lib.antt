pub mod Late
pub mod LateSearches
pub mod PacedRows
pub mod SeriesColumns
pub mod EndlessDues
pub mod ColumnLaws
pub use Rattle.walk_times.specs.dioid as dioid
pub use Rattle.walk_times.specs.dioid_matrix as dioid_matrix
pub use Rattle.walk_times.specs.series_laws as series_laws
pub use Rattle.walk_times.specs.series_form as series_form
pub use Rattle.walk_times.specs.series_ops as series_ops
pub use Rattle.teg_net.specs as teg_net
pub use Rattle.walk_times.specs.teg_check as teg_check
pub use Rattle.walk_times.specs.teg_model as teg_model
pub use Rattle.walk_times.specs.settled_laws as settled_laws
pub use Rattle.walk_times.specs.periodic_laws as periodic_laws
pub use Rattle.due_laws.specs as due_laws
pub use Rattle.endless_due.specs as endless_due
pub use Rattle.walk_times.specs as walk_times
