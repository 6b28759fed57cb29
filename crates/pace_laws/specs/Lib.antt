pub mod SlowerNets
pub mod TightPotentials
pub mod RatiosExist
pub mod Eigenspaces
