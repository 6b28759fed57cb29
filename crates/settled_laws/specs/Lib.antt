pub mod SettledForms
pub mod OneSettledForm
pub mod DateDifferences
pub use Rattle.teg_model.specs.dioid as dioid
pub use Rattle.teg_model.specs.teg_net as teg_net
pub use Rattle.teg_model.specs as teg_model
