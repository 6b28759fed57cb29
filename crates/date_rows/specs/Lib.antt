pub mod DateTables
pub mod DateCells
pub mod LastColumns
pub mod PlaceOrder
pub mod KeptRows
pub mod Sources
pub mod Passes
pub mod RowPasses
pub mod Streams
pub use Rattle.dioid.specs as dioid
pub use Rattle.teg_net.specs as teg_net
pub use Rattle.teg_check.specs as teg_check
pub use Rattle.teg_model.specs as teg_model
