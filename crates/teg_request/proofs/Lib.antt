pub mod CommandNames
