pub mod TightRows
pub mod CheckedRows
pub mod Waits
pub mod ToldRows
pub use Rattle.teg_model.specs as teg_model
pub use Rattle.dioid.specs as dioid
pub use Rattle.teg_net.specs as teg_net
