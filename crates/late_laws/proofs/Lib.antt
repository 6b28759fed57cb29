pub mod LateLines
pub mod SlowDues
