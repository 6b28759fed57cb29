pub mod DueOnce
pub mod DueRules
pub mod NamedOnce
pub mod DueRows
pub use Rattle.csv_records.proofs.csv_proofs as csv_proofs
pub use Rattle.csv_records.proofs as csv_records_proofs
pub use Rattle.teg_net.proofs as teg_net_proofs
