pub mod OrderOfDatings
pub mod SlowerNets
