pub mod PeriodicBounds
pub mod Readings
pub mod BoundTexts
pub mod MadeRows
pub mod ReturningRows
pub mod JumpedRows
