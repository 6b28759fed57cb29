pub mod Loops
pub mod Shortening
pub mod ClosedPieces
pub mod PathSplitting
