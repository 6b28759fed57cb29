pub mod Answers
pub mod BetweenForms
pub mod FormTurns
