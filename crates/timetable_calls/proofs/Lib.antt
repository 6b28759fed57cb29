pub mod Moving
pub mod Rounding
pub mod Existing
pub mod Busiest
pub mod Along
pub mod Units
pub mod Whole
