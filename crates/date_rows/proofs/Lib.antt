mod Sorting
pub mod Ranking
pub mod Cells
mod Seeing
mod Filling
mod Beginning
mod Earliest
mod Bounded
mod Columns
mod NextRow
mod Raising
mod Keeping
mod Shortening
pub use Rattle.dioid.proofs as dioid_proofs
pub use Rattle.teg_net.proofs as teg_net_proofs
pub use Rattle.teg_check.proofs as teg_check_proofs
pub use Rattle.teg_model.proofs as teg_model_proofs
