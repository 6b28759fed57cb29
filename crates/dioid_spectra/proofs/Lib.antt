pub mod CircuitSums
pub mod FilledTables
pub mod MatrixNetLaws
pub mod PowerLaws
pub mod RowChecks
pub mod RowLists
