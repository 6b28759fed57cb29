pub mod EndlessRows
pub mod EndlessFiles
pub use Rattle.csv_records.specs as csv_records
pub use Rattle.teg_net.specs as teg_net
pub use Rattle.teg_due.specs as teg_due
