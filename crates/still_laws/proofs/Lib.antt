pub mod AtZero
pub mod StillNets
