mod Lowest
mod Climbing
pub mod NamedPlaces
