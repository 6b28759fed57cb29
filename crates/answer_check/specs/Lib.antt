pub mod ShownLists
pub mod ListReading
pub mod NoCircuits
pub mod ShownSlacks
pub mod ShownDates
pub mod DateReading
