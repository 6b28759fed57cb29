pub mod Liveness
pub mod NamedPlaces
pub mod Climbs
