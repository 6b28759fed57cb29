pub mod BackOrder
pub mod DueNumbers
pub mod FirstLate
pub mod MadeRows
pub mod ShownTables
pub mod ShownWalks
pub mod TableReading
pub mod TableTexts
