pub mod JointInputs
pub mod LateDues
pub mod ShiftedDues
