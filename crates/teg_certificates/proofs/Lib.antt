pub mod PathSums
pub mod Ratios
pub mod OneRatio
pub mod Inside
pub mod Short
pub mod NamedRatios
pub mod Certified
pub mod Deciding
pub mod Fitting
pub mod RisingRanks
pub mod FurtherTokens
pub mod SlackShown
pub use Rattle.teg_net.proofs as teg_net_proofs
pub use Rattle.teg_net.proofs.number_laws_proofs as number_laws_proofs
