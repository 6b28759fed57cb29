pub mod Cycles
pub mod Finished
pub mod FirstPart
pub mod Great
pub mod Heights
pub mod Listed
pub mod DateNumbers
pub mod PointwiseTables
pub mod Same
pub mod Steps
pub use Rattle.series_laws.proofs.number_laws_proofs as number_laws_proofs
pub use Rattle.dioid.proofs as dioid_proofs
