pub mod DatesByTheGame
pub mod EarliestRunsExist
pub mod FiringOutcomes
pub mod LiveByTheGame
pub mod TokensOnCircuits
