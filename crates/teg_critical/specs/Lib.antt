pub mod Slacks
pub mod Gaps
pub mod SlackAndPaths
pub mod ShownSlacks
pub mod Losses
pub mod LossEndings
pub mod LeastLosses
pub mod Told
pub mod Hops
pub mod Heights
pub mod SlackWitnessed
pub use Rattle.teg_certificates.specs as teg_certificates
