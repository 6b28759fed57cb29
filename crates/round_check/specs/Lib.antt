pub mod Checks
pub mod Offers
pub mod PolicyCircuits
pub mod Routes
pub mod Rounds
pub mod ShownRounds
pub mod OtherRounds
pub mod ToldRounds
