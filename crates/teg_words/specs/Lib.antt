pub mod WordMeanings
pub mod NumberWords
pub mod CommandLineWords
