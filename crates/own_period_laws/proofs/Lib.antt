pub mod OwnForms
pub mod Worths
pub mod OwnPeriods
