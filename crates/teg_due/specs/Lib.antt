pub mod RowNames
pub mod DueFileRows
pub mod Logs
pub mod RowRules
pub mod DueFiles
pub use Rattle.csv_records.specs.csv as csv
pub use Rattle.csv_records.specs as csv_records
pub use Rattle.teg_net.specs as teg_net
