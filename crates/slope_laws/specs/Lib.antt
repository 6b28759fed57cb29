pub mod Slopes
pub mod SlopesExist
pub use Rattle.teg_loops.specs as teg_loops
