pub mod InnerPlaces
pub mod Measure
pub mod Lowest
pub mod Walks
pub mod Best
pub mod Values
pub mod NextJoins
pub mod Passing
pub mod Spreading
pub mod Choices
pub mod Improving
pub mod Listing
pub mod RoundStates
pub mod Ending
pub mod Runs
pub mod Rising
pub mod Exits
pub use Rattle.teg_check.proofs.number_laws_proofs as number_laws_proofs
pub use Rattle.teg_net.proofs as teg_net_proofs
pub use Rattle.policy_rounds.proofs as policy_rounds_proofs
pub use Rattle.teg_check.proofs as teg_check_proofs
pub use Rattle.teg_certificates.proofs as teg_certificates_proofs
pub use Rattle.teg_parts.proofs as teg_parts_proofs
