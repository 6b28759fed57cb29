pub mod BestBelow
pub mod FirstBest
pub mod Telling
pub mod Gathering
pub use Rattle.teg_howard.proofs.number_laws_proofs as number_laws_proofs
pub use Rattle.teg_net.proofs as teg_net_proofs
pub use Rattle.teg_check.proofs as teg_check_proofs
pub use Rattle.teg_certificates.proofs as teg_certificates_proofs
