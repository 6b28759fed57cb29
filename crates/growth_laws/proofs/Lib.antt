pub mod CertifiedLines
pub mod DateLines
pub mod Growth
pub mod PathSteps
pub use Rattle.periodic_laws.proofs.number_laws_proofs as number_laws_proofs
pub use Rattle.periodic_laws.proofs.teg_net_proofs as teg_net_proofs
pub use Rattle.slope_laws.proofs.teg_loops_proofs as teg_loops_proofs
pub use Rattle.periodic_laws.proofs.teg_model_proofs as teg_model_proofs
