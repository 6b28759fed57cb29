pub mod SaidTimetables
