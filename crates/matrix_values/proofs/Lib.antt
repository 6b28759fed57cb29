pub mod MeetTables
pub mod ReachLaws
pub mod SameTables
pub mod TurnedTables
