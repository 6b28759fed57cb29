pub mod DueDates
pub mod Plans
pub mod LateRefusals
pub mod PlansAndLateness
pub mod FirstSteps
pub mod LatestCells
pub mod Transposed
pub mod DueNumbers
pub mod FirstLate
pub mod BackwardOrder
pub mod GoingBack
pub use Rattle.teg_due.specs.csv_records as csv_records
pub use Rattle.teg_net.specs as teg_net
pub use Rattle.teg_due.specs as teg_due
pub use Rattle.teg_check.specs as teg_check
pub use Rattle.due_laws.specs as due_laws
