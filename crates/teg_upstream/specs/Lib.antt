pub mod Parts
pub use Rattle.teg_net.specs as teg_net
pub use Rattle.teg_check.specs as teg_check
pub use Rattle.teg_model.specs as teg_model
