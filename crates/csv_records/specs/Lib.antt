pub mod Records
pub mod NumberFields
pub mod RowsOfRecords
pub mod Seen
pub use Rattle.csv.specs as csv
