pub mod CommandDates
pub mod Timetable
pub mod Transfer
