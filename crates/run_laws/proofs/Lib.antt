pub mod Counting
pub mod Dates
pub mod Earliest
pub mod Failing
pub mod InOrder
pub mod Least
pub mod Prefixes
pub use Rattle.teg_model.proofs as teg_model_proofs
