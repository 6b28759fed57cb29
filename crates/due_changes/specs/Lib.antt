pub mod JointInputs
pub mod ShiftedDues
