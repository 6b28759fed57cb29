pub mod TopsUpTo
pub mod Trail
pub mod Feeding
pub mod Settling
pub mod Tops
pub mod ReadBack
pub mod Telling
