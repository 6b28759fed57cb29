pub mod SlowerNets
pub mod ChangesAreSlower
pub mod ChangesBack
