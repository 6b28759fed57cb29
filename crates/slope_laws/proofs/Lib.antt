pub mod Sums
pub mod WalkPaths
pub mod BestWalks
pub mod EndedLists
pub mod Lower
pub mod Starts
pub mod Slopes
pub mod Nevers
pub mod FormSlopes
pub use Rattle.teg_loops.proofs as teg_loops_proofs
