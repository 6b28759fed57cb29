pub mod OwnRows
pub mod OwnNumbers
