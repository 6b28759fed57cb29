pub mod Rests
pub mod Lists
pub mod Dates
pub mod Told
pub mod Multiples
pub mod Short
pub mod Starts
