pub mod Systems
pub mod LiveRanks
pub mod Datings
pub mod Starts
pub mod WalkDates
pub mod DateBounds
pub mod SystemLaws
pub mod LeastDatings
pub use Rattle.dioid.specs as dioid
pub use Rattle.teg_net.specs as teg_net
