pub mod ElementAnswers
pub mod Dates
pub mod Flags
pub mod DioidAxioms
pub mod DateOrder
pub mod Proved
