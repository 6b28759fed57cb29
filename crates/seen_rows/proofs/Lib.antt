pub mod RowsOnce
