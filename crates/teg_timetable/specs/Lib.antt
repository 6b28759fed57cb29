pub mod Spreads
pub mod WaysBack
pub mod DelayAnswers
pub mod TimetableTexts
pub use Rattle.delay_laws.specs as delay_laws
pub use Rattle.timetable_files.specs as timetable_files
pub use Rattle.release_nets.specs as release_nets
