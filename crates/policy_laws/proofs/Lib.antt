pub mod InPart
pub mod OneRound
pub mod Kept
pub mod Counting
pub mod RatioCounts
