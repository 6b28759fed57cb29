pub mod InputOutput
