pub mod MovedTimes
pub mod TimesFromInputs
pub mod TransferTexts
