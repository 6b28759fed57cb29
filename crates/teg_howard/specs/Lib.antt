pub mod PolicyRuns
pub mod FoundCircuits
pub mod RoundStates
pub mod Following
pub mod CircuitStarts
pub mod InnerPlaces
pub use Rattle.teg_net.specs as teg_net
pub use Rattle.policy_rounds.specs as policy_rounds
pub use Rattle.teg_check.specs as teg_check
pub use Rattle.teg_parts.specs as teg_parts
