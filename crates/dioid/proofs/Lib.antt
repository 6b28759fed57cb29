pub mod AtMost
pub mod DateOrder
pub mod DateOrderings
pub mod Moves
