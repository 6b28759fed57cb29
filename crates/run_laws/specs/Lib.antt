pub mod Earliest
pub mod EarliestRuns
pub mod FiringFailures
pub mod LegalRuns
pub mod Runs
pub use Rattle.teg_model.specs.dioid as dioid
pub use Rattle.teg_model.specs as teg_model
