pub mod ByEnds
pub mod LedNets
pub mod Latest
