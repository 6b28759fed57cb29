pub mod OwnPeriods
pub mod OwnForms
