pub mod Forever
pub mod ToldAnswers
pub mod UnreadFiles
