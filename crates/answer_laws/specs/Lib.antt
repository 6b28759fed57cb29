pub mod SaidAnswers
pub mod SaidBounds
pub mod SaidRounds
