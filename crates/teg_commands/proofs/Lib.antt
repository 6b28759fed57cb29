pub mod Released
pub mod ToldAnswers
