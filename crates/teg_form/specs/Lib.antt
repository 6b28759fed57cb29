pub mod StandardForms
pub mod Times
pub mod KeyOrder
pub mod Adding
pub mod FormDates
pub use Rattle.dioid.specs as dioid
pub use Rattle.teg_net.specs as teg_net
pub use Rattle.teg_check.specs as teg_check
pub use Rattle.teg_model.specs as teg_model
