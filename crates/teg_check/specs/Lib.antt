pub mod Ranks
pub mod CheckRefusals
pub mod Exits
pub use Rattle.teg_net.specs as teg_net
