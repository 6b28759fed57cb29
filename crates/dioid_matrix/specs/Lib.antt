pub mod EntryLists
pub mod Products
pub mod Residuals
pub mod MatrixStars
pub mod Sums
pub mod Tables
pub mod Turns
