pub mod Policies
pub mod PolicyRounds
pub mod PolicyLists
pub mod RunAnswers
pub mod LastRounds
pub mod OnePolicyRun
pub use Rattle.teg_net.specs as teg_net
