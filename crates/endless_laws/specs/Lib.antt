pub mod KeptRows
pub mod KeptWindows
pub mod LateRows
pub mod WalksToDues
pub use Rattle.dioid.specs as dioid
pub use Rattle.teg_net.specs as teg_net
pub use Rattle.teg_model.specs as teg_model
pub use Rattle.settled_laws.specs as settled_laws
pub use Rattle.due_laws.specs as due_laws
pub use Rattle.endless_due.specs as endless_due
