pub mod ExpressionTrees
pub mod Grammar
pub mod ParseAnswers
pub mod Meaning
pub mod KnownSeries
pub mod Readers
pub mod Printing
pub use Rattle.dioid.specs as dioid
pub use Rattle.teg_text.specs as teg_text
