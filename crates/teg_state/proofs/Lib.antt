pub mod RunSteps
pub mod LeftPlaces
pub mod JoinedLists
pub mod FoundLists
pub mod FarLists
pub mod LeftDues
