pub mod BackwardEquations
pub mod BackwardSolutions
pub mod Floats
pub mod MetByStarts
pub mod ShownByWalks
