pub mod CircuitLines
pub mod CycleLines
pub mod CycleMeanings
pub mod LinesTellBack
pub mod RoundLines
pub mod Widths
pub use Rattle.teg_net.specs as teg_net
pub use Rattle.teg_text.specs as teg_text
