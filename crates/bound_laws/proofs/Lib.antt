pub mod Best
pub mod Onward
pub mod Unrolled
pub mod WalkTimes
pub mod Bounded
pub mod Shortest
pub use Rattle.settled_laws.proofs.teg_net_proofs as teg_net_proofs
pub use Rattle.teg_loops.proofs as teg_loops_proofs
