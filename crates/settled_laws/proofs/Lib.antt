pub mod Repeating
pub mod Telling
pub mod Deciding
pub mod Shortest
pub mod Everywhere
pub mod Tails
pub mod Settling
pub mod Rising
pub mod Driven
pub mod Seen
pub mod Alike
pub mod OneForm
pub use Rattle.teg_model.proofs.number_laws_proofs as number_laws_proofs
pub use Rattle.teg_model.proofs.dioid_proofs as dioid_proofs
pub use Rattle.teg_model.proofs.teg_net_proofs as teg_net_proofs
pub use Rattle.teg_model.proofs as teg_model_proofs
