pub mod Partitions
pub mod PlacesAlong
pub mod Components
pub mod BothWays
pub mod PartNumbers
