pub mod LeastRuns
pub mod RoomyRuns
pub mod DatedRows
pub mod ReadRuns
pub mod TurnsLeft
pub mod Stretches
pub use Rattle.dioid.specs as dioid
pub use Rattle.teg_net.specs as teg_net
pub use Rattle.teg_check.specs as teg_check
pub use Rattle.teg_model.specs as teg_model
pub use Rattle.date_rows.specs as date_rows
pub use Rattle.jump_laws.specs as jump_laws
