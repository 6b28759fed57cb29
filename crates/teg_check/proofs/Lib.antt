pub mod Liveness
pub mod Trail
pub mod Ranking
pub mod Changing
pub use Rattle.teg_net.proofs.number_laws_proofs as number_laws_proofs
pub use Rattle.teg_net.proofs as teg_net_proofs
