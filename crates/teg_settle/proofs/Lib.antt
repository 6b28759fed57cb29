pub mod Leasts
pub mod Tested
mod Striking
pub mod Copying
pub mod Owning
pub mod Limiting
mod OneDate
pub mod OwnForms
pub mod Reaching
pub mod Transferring
mod PartTold
pub mod Showing
mod SpreadOut
mod Steps
pub use Rattle.periodic_laws.proofs.number_laws_proofs as number_laws_proofs
pub use Rattle.dioid.proofs as dioid_proofs
pub use Rattle.periodic_laws.proofs.dioid_matrix_proofs as dioid_matrix_proofs
pub use Rattle.periodic_laws.proofs.series_laws_proofs as series_laws_proofs
pub use Rattle.periodic_laws.proofs.series_form_proofs as series_form_proofs
pub use Rattle.teg_net.proofs as teg_net_proofs
pub use Rattle.teg_check.proofs as teg_check_proofs
pub use Rattle.slope_laws.proofs.teg_loops_proofs as teg_loops_proofs
pub use Rattle.periodic_laws.proofs.teg_model_proofs as teg_model_proofs
pub use Rattle.periodic_laws.proofs.settled_laws_proofs as settled_laws_proofs
pub use Rattle.walk_times.proofs as walk_times_proofs
pub use Rattle.list_spans.proofs as list_spans_proofs
