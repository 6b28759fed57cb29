mod Values
mod Entries
mod Fixed
mod InputColumns
mod Multiples
mod Forms
mod Inside
mod Released
mod Columns
mod OfNet
pub use Rattle.series_ops.proofs.number_laws_proofs as number_laws_proofs
pub use Rattle.series_ops.proofs.dioid_proofs as dioid_proofs
pub use Rattle.dioid_matrix.proofs as dioid_matrix_proofs
pub use Rattle.series_ops.proofs.series_laws_proofs as series_laws_proofs
pub use Rattle.series_ops.proofs.series_form_proofs as series_form_proofs
pub use Rattle.settled_laws.proofs.teg_net_proofs as teg_net_proofs
pub use Rattle.settled_laws.proofs.teg_model_proofs as teg_model_proofs
pub use Rattle.settled_laws.proofs as settled_laws_proofs
