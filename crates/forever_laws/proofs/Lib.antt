pub mod GoingOn
pub mod Late
pub mod FirstLate
pub mod Zeros
pub mod Soon
pub mod Turns
pub mod Paced
pub mod Inputs
pub mod Meeting
pub mod Series
pub mod Residuals
pub mod FirstRows
pub mod OneColumn
pub mod Fitting
pub mod MovedForms
pub mod MovedColumns
pub use Rattle.walk_times.proofs.number_laws_proofs as number_laws_proofs
pub use Rattle.walk_times.proofs.dioid_proofs as dioid_proofs
pub use Rattle.walk_times.proofs.dioid_matrix_proofs as dioid_matrix_proofs
pub use Rattle.walk_times.proofs.series_laws_proofs as series_laws_proofs
pub use Rattle.walk_times.proofs.series_form_proofs as series_form_proofs
pub use Rattle.walk_times.proofs.settled_laws_proofs as settled_laws_proofs
