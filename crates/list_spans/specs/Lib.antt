pub mod ListDates
pub mod Spans
pub use Rattle.dioid.specs as dioid
pub use Rattle.teg_net.specs as teg_net
pub use Rattle.settled_laws.specs.teg_model as teg_model
pub use Rattle.settled_laws.specs as settled_laws
