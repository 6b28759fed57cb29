pub mod Entries
pub mod GainValues
pub mod WalkStars
pub mod PlaceValues
pub mod EntryTables
pub mod SettledRows
pub mod TransferTables
