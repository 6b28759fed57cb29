pub mod Faults
pub mod Lines
pub mod WordsOfNames
pub mod WordReading
pub mod LineBlocks
pub mod ValueWords
pub use Rattle.teg_net.specs as teg_net
