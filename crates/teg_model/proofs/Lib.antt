pub mod DateFunctions
pub mod LeastOver
pub mod OfNet
pub mod Delays
pub mod Tokens
pub mod TightLeast
pub mod FirstStarts
pub mod WalkSteps
pub mod SystemWalks
pub mod GreatestWalks
pub mod Within
pub mod ListDates
pub mod NetBound
pub mod LiveRanks
pub use Rattle.teg_net.proofs.number_laws_proofs as number_laws_proofs
pub use Rattle.dioid.proofs as dioid_proofs
pub use Rattle.teg_net.proofs as teg_net_proofs
