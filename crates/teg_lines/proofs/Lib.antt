pub mod Certified
pub mod CircuitsRead
pub mod CyclesRead
pub mod Members
pub mod RoundsRead
pub mod Runs
pub use Rattle.teg_net.proofs as teg_net_proofs
pub use Rattle.teg_text.proofs as teg_text_proofs
