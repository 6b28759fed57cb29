pub mod Search
pub mod Back
pub mod Sums
pub mod Turns
pub mod First
pub mod PolicyCircuits
pub mod ListedChoices
pub mod BestCircuits
pub mod StepBounds
pub mod Routing
pub mod Optimum
pub mod Unique
pub mod OneRun
pub use Rattle.number_laws.proofs as number_laws_proofs
pub use Rattle.teg_net.proofs as teg_net_proofs
pub use Rattle.teg_certificates.proofs as teg_certificates_proofs
