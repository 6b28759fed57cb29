pub mod Unread
pub mod Steps
pub mod RowLaws
pub use Rattle.csv.proofs as csv_proofs
