pub mod Calls
pub mod Headline
pub mod Says
pub mod ShownFirings
pub mod WholeCalls
pub use Rattle.teg_outside.specs as teg_outside
