mod EqualEntries
mod FreePaths
mod Recursion
mod StarTimes
mod Cells
mod Holds
mod StarEntries
mod Sorting
mod StarIs
mod Merging
mod SortedSame
pub mod OneForm
mod PathDates
mod DatesByForm
mod FormIsWhole
pub use Rattle.dioid.proofs as dioid_proofs
pub use Rattle.teg_net.proofs as teg_net_proofs
pub use Rattle.teg_check.proofs as teg_check_proofs
pub use Rattle.teg_model.proofs as teg_model_proofs
