pub mod MovedTimes
pub mod Transferred
pub mod TransferTexts
